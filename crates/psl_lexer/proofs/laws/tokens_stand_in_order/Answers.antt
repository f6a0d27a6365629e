use Rattle.std.proofs.Common.{subst, ◌≡◌, ◌≤◌, ℕ, ◌+◌, List, length, arith}
use Rattle.psl_lexer.specs.Splits.{Splits}
use Rattle.psl_lexer.specs.declared.kinds.Token.{Token}
use Rattle.psl_lexer.proofs.Standing.{StandInRow, stand, all_within, all_ascend, count_within}
use Rattle.psl_lexer.proofs.laws.tokens_stand_in_order.Goals as goal

row : (text : List ℕ) (tokens : List Token) → Splits 0 text tokens → StandInRow 0 tokens (length text)
row text tokens splits =
    let end : 0 + length text ≡ length text = omega arith in
    let P : ℕ → Type 0 = λ (to : ℕ). StandInRow 0 tokens to in
    subst P end (stand 0 text tokens splits)

pub returns-clause-within : goal.returns-clause-within
returns-clause-within c text tokens splits = all_within 0 tokens (length text) (row text tokens splits)

pub returns-clause-ascend : goal.returns-clause-ascend
returns-clause-ascend c text tokens splits = all_ascend 0 tokens (length text) (row text tokens splits)

pub returns-clause-few : goal.returns-clause-few
returns-clause-few c text tokens splits = let count : 0 + length tokens ≤ length text =
    count_within 0 tokens (length text) (row text tokens splits) in omega arith
