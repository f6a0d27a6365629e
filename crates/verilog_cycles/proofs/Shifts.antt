-- Shifts past the width.
use Rattle.std.proofs.Common.{◌≡◌, ℕ, ◌+◌, ◌-◌, ◌*◌, ◌/◌, ◌%◌, ◌^◌, ◌<◌, ◌≤◌, ap, ◌∙◌, arith}
use Rattle.std.proofs.Math.Nat.{mul-mod_right, div-eq_of_lt}
use Rattle.std.proofs.Math.Pow.{pow_mono}
use Rattle.std.proofs.lemmas.Nat.{pow-add}

pub left_by : (x p w : ℕ) → w ≤ p → x * 2 ^ p % 2 ^ w ≡ 0
left_by x p w within =
    let d = p - w in
    let sum : p ≡ w + d = omega arith in
    let order : x * (2 ^ w * 2 ^ d) ≡ 2 ^ w * (x * 2 ^ d) = omega arith in
    ap (λ (q : ℕ). x * 2 ^ q % 2 ^ w) sum ∙ ap (λ (y : ℕ). x * y % 2 ^ w) (pow-add 2 w d)
    ∙ ap (λ (y : ℕ). y % 2 ^ w) order ∙ mul-mod_right (2 ^ w) (x * 2 ^ d)

pub right_by : (x p w : ℕ) → x < 2 ^ w → w ≤ p → x / 2 ^ p ≡ 0
right_by x p w fits within =
    let larger : 2 ^ w ≤ 2 ^ p = pow_mono within in
    let below : x < 2 ^ p = omega arith in
    div-eq_of_lt below
