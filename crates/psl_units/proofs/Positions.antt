-- A place that is found nowhere is past the end.
use Rattle.std.proofs.Common.{◌≡◌, ℕ, ◌≤◌, nat_lt, cond, not, Bool, Option, Some, None, List, length, arith}
use Rattle.std.proofs.lemmas.Bool.Decides.{nat_tests}
use Rattle.std.proofs.lemmas.List.Sums.{prefix_len-le-length}
use Rattle.std.specs.List.{position, position_or_len}

none_is_end : (a n : ℕ) → a ≤ n → cond (nat_lt a n) (Some a) None ≡ None → n ≡ a
none_is_end a n h e = grind (arith, nat_tests)

pub position_none : {X : Type 0} (p : X → Bool) (xs : List X)
    → position p xs ≡ None → length xs ≡ position_or_len p xs
position_none p xs e = none_is_end (position_or_len p xs) (length xs) (prefix_len-le-length (λ x. not (p x)) xs) e
