use Rattle.std.proofs.Common.{subst, ◌≡◌, ℕ, ◌+◌, length, arith}
use Rattle.psl_lexer.specs.Order.{IsFaultBelow}
use Rattle.psl_lexer.proofs.Standing.{fault_below}
use Rattle.psl_lexer.proofs.laws.a_fault_is_at_a_byte.Goals as goal

pub returns : goal.returns
returns c text fault faults =
    let end : 0 + length text ≡ length text = omega arith in
    let P : ℕ → Type 0 = λ (to : ℕ). IsFaultBelow to fault in
    subst P end (fault_below 0 text fault faults)
