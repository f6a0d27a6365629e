-- The extension of digits at the left.
use Rattle.std.proofs.Common.{◌≡◌, ℕ, zero, suc, ◌+◌, ◌-◌, ◌*◌, ◌⊎◌, inl, inr, List, [], ◌∷◌, ◌++◌, cond, length}
use Rattle.std.proofs.Common.{refl, sym, ◌∙◌, ap, subst, arith}
use Rattle.std.specs.Prelude.{fold, nat_eq}
use Rattle.std.specs.List.{repeat}
use Rattle.std.proofs.lemmas.List.Elements.{All-append}
use Rattle.std.proofs.lemmas.List.Sums.{fold-append}
use Rattle.vcd_replay.specs.Values.{extension, extended, AreKnown, bits_value}

known_extension : (digits : List ℕ) → AreKnown digits → extension digits ≡ 48
known_extension [] h = refl
known_extension (digit ∷ digits) h = by (h 0 48 (omega arith))
  where
    by : (digit ≡ 48) ⊎ (digit ≡ 49) → cond (nat_eq digit 49) 48 digit ≡ 48
    by (inl e) = ap (λ d. cond (nat_eq d 49) 48 d) e
    by (inr e) = ap (λ d. cond (nat_eq d 49) 48 d) e

one : AreKnown (48 ∷ [])
one zero d low = inl refl
one (suc k) d low = absurd (omega arith)

zeros_are_known : (n : ℕ) → AreKnown (repeat n (48 ∷ []))
zeros_are_known zero = λ k d low. absurd (omega arith)
zeros_are_known (suc n) =
    All-append (λ digit. (digit ≡ 48) ⊎ (digit ≡ 49)) (48 ∷ []) (repeat n (48 ∷ [])) one (zeros_are_known n)

zeros_are_nothing : (n : ℕ) → bits_value (repeat n (48 ∷ [])) ≡ 0
zeros_are_nothing zero = refl
zeros_are_nothing (suc n) = zeros_are_nothing n

pub extended_known : (size : ℕ) (digits : List ℕ) → AreKnown digits → AreKnown (extended size digits)
extended_known size digits h =
    subst (λ d. AreKnown (repeat (size - length digits) (d ∷ []) ++ digits)) (sym (known_extension digits h))
    (All-append (λ digit. (digit ≡ 48) ⊎ (digit ≡ 49)) (repeat (size - length digits) (48 ∷ [])) digits
    (zeros_are_known (size - length digits)) h)

pub extended_number : (size : ℕ) (digits : List ℕ) → AreKnown digits → bits_value (extended size digits)
    ≡ bits_value digits
extended_number size digits h =
    ap (λ d. bits_value (repeat (size - length digits) (d ∷ []) ++ digits)) (known_extension digits h)
    ∙ fold-append (λ value digit. 2 * value + (digit - 48)) 0 (repeat (size - length digits) (48 ∷ [])) digits
    ∙ ap (λ start. fold (λ value digit. 2 * value + (digit - 48)) start digits)
    (zeros_are_nothing (size - length digits))
