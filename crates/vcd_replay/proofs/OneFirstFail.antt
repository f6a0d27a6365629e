-- A stream has one first cycle in which it is 1, or none.
use Rattle.std.proofs.Common.{◌≡◌, ℕ, inl, inr, List, Option, Some, None, refl, ap}
use Rattle.std.proofs.lemmas.Bool.{cases_order}
use Rattle.vcd_replay.specs.FirstFail.{IsFirstFail}

pub one_first_fail : (stream : List ℕ) (x y : Option ℕ) → IsFirstFail stream x → IsFirstFail stream y → x ≡ y
one_first_fail stream None None a b = refl
one_first_fail stream None (Some n) a b = absurd (a n b.0)
one_first_fail stream (Some n) None a b = absurd (b n a.0)
one_first_fail stream (Some n) (Some m) a b = elim (cases_order n m) [
  | inl same ↦ ap (λ (k : ℕ). Some k) same
  | inr other ↦ elim other [
    | inl low ↦ absurd (b.1 n low a.0)
    | inr low ↦ absurd (a.1 m low b.0)
  ]
]
