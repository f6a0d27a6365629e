use Rattle.std.proofs.Common.{◌≡◌, ℕ, ◌≤◌, nat_lt, cond, not, Some, None, length, arith, sym, ◌∙◌}
use Rattle.std.proofs.lemmas.Bool.Decides.{nat_tests}
use Rattle.std.proofs.lemmas.List.Sums.{prefix_len-le-length}
use Rattle.std.specs.List.{position_or_len}
use Rattle.unit_rules.specs.Numbers.{is_quote}
use Rattle.unit_rules.proofs.numbers.quote_place.Goals as goal

none_is_end : (a n : ℕ) → a ≤ n → cond (nat_lt a n) (Some a) None ≡ None → n ≡ a
none_is_end a n h e = grind (arith, nat_tests)

pub returns-in-None-clause-place : goal.returns-in-None-clause-place
returns-in-None-clause-place c =
    none_is_end (position_or_len is_quote c.args.bytes.now) (length c.args.bytes.now)
    (prefix_len-le-length (λ x. not (is_quote x)) c.args.bytes.now) (sym c.find_quote.ensures ∙ c.in-None.is)
