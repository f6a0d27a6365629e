-- Sums and products as they are told: how far a part goes beyond the most doesn't matter.
use Rattle.std.proofs.Common.{◌≡◌, ◌⊎◌, inl, inr, ℕ, zero, suc, ◌+◌, ◌*◌, ◌<◌, ◌≤◌, ◌^◌, None, refl, sym, ap, ◌∙◌, subst}
use Rattle.std.proofs.Common.{arith}
use Rattle.std.specs.Prelude.{min}
use Rattle.std.proofs.lemmas.Bool.{cases_lt}
use Rattle.std.proofs.Math.Nat.{min-eq_left, min-eq_right, zero-min, mul-zero, mul_comm, le-mul_of_pos_right}
use Rattle.sequence_cores.specs.Places.{copied_places, repeated_places, told}

sums_meet : (a b c : ℕ) → min (min a c + min b c) c ≡ min (a + b) c
sums_meet a b c = omega arith

factor_past : (a b c : ℕ) → 0 < c → c < a → min (min a c * min b c) c ≡ min (a * b) c
factor_past a zero c some past =
    let none : min a c * min zero c ≡ zero =
    ap (λ (x : ℕ). min a c * x) (zero-min c) ∙ mul-zero (min a c) in
    ap (λ (x : ℕ). min x c) (none ∙ sym (mul-zero a))
factor_past a (suc b) c some past =
    let is : min a c ≡ c = min-eq_right {n = c} {m = a} (omega arith) in
    let other : 0 < min (suc b) c = omega arith in
    let told_past : c ≤ min a c * min (suc b) c =
    subst (λ (x : ℕ). c ≤ x * min (suc b) c) (sym is) (le-mul_of_pos_right c other) in
    let grows : a ≤ a * suc b = le-mul_of_pos_right a (omega arith) in
    let all_past : c ≤ a * suc b = omega arith in
    min-eq_right told_past ∙ sym (min-eq_right all_past)

products_meet : (a b c : ℕ) → 0 < c → min (min a c * min b c) c ≡ min (a * b) c
products_meet a b c some = pick (cases_lt c a) (cases_lt c b)
  where
    pick : (c < a) ⊎ (a ≤ c) → (c < b) ⊎ (b ≤ c) → min (min a c * min b c) c ≡ min (a * b) c
    pick (inl past) other = factor_past a b c some past
    pick (inr within) (inl past) =
        ap (λ (x : ℕ). min x c) (mul_comm (min a c) (min b c)) ∙ factor_past b a c some past
        ∙ ap (λ (x : ℕ). min x c) (mul_comm b a)
    pick (inr within) (inr other) =
        ap (λ (x : ℕ). min (x * min b c) c) (min-eq_left within)
        ∙ ap (λ (x : ℕ). min (a * x) c) (min-eq_left other)

-- of parts as they are told
pub sum_told : (t u a b : ℕ) → t ≡ told a → u ≡ told b → told (t + u) ≡ told (a + b)
sum_told t u a b p q =
    ap (λ (x : ℕ). told (x + u)) p ∙ ap (λ (y : ℕ). told (told a + y)) q ∙ sums_meet a b (2 ^ 63)

pub product_told : (t u a b : ℕ) → t ≡ told a → u ≡ told b → told (t * u) ≡ told (a * b)
product_told t u a b p q =
    ap (λ (x : ℕ). told (x * u)) p ∙ ap (λ (y : ℕ). told (told a * y)) q
    ∙ products_meet a b (2 ^ 63) (omega arith)

pub no_copies : (count p : ℕ) → count ≡ 0 → copied_places count p ≡ 1
no_copies zero p none = refl
no_copies (suc count) p none = absurd (omega arith)

pub some_copies : (count p : ℕ) → 0 < count → copied_places count p ≡ count * p
some_copies zero p some = absurd (omega arith)
some_copies (suc count) p some = refl

pub any_number : (low p : ℕ) → low ≡ 0 → repeated_places low None p ≡ p + 1
any_number zero p none = refl
any_number (suc low) p none = absurd (omega arith)

pub at_least : (low p : ℕ) → 0 < low → repeated_places low None p ≡ copied_places low p + (p + 1)
at_least zero p some = absurd (omega arith)
at_least (suc low) p some = refl
