-- Sums that wrapped at 64 bits, cut down to fewer.
use Rattle.std.proofs.Common.{◌≡◌, ℕ, ◌+◌, ◌-◌, ◌%◌, ◌^◌, ◌≤◌, ap, ◌∙◌, arith}
use lib.Pow.{mod-mod-pow}

pub cut_twice : (n w : ℕ) → w ≤ 64 → n % 2 ^ 64 % 2 ^ w ≡ n % 2 ^ w
cut_twice n w within =
    let d = 64 - w in
    let sum : 64 ≡ d + w = omega arith in
    ap (λ (k : ℕ). n % 2 ^ k % 2 ^ w) sum ∙ mod-mod-pow n d w
