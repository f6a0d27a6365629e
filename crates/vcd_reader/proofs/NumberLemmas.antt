-- Numbers in decimal.
use Rattle.std.proofs.Common.{◌≡◌, ℕ, ◌+◌, ◌-◌, ◌*◌, ◌<◌, ◌≤◌, List, [], ◌∷◌, Bool, true, false, cond, Option, Some}
use Rattle.std.proofs.Common.{None, length, take, get_or, refl, sym, ◌∙◌, ap, arith}
use Rattle.std.specs.List.{list_all}
use Rattle.std.specs.Str.Parse.{digits_value}
use Rattle.std.specs.Char.{digit_value}
use Rattle.std.proofs.lemmas.Bool.Decides.{nat_tests}
use Rattle.std.proofs.lemmas.Int.Digits.{digits_value_more}
use Rattle.std.proofs.lemmas.Str.Parse.{digits_value-take-le}
use Rattle.vcd_reader.specs.Numbers.{is_digit, is_number, number_up_to}

pub no_number : (limit : ℕ) (text : List ℕ) → list_all is_digit text ≡ false → number_up_to limit text ≡ None
no_number limit [] h = refl
no_number limit (byte ∷ bytes) h = grind (arith, h)

pub too_large : (limit : ℕ) (text : List ℕ) → limit < digits_value 10 text → number_up_to limit text ≡ None
too_large limit [] h = refl
too_large limit (byte ∷ bytes) h = grind (arith, nat_tests)

pub a_number : (limit : ℕ) (text : List ℕ) → 0 < length text → list_all is_digit text ≡ true
    → digits_value 10 text ≤ limit → number_up_to limit text ≡ Some (digits_value 10 text)
a_number limit [] some all low = absurd (omega arith)
a_number limit (byte ∷ bytes) some all low = grind (arith, nat_tests)

pub digit_is : (byte : ℕ) → 48 ≤ byte → byte ≤ 57 → digit_value byte ≡ byte - 48
digit_is byte low high = grind (arith, nat_tests)

pub one_more_digit : (text : List ℕ) (i : ℕ) → i < length text → 48 ≤ get_or text i 0 → get_or text i 0 ≤ 57
    → digits_value 10 (take (i + 1) text) ≡ digits_value 10 (take i text) * 10 + (get_or text i 0 - 48)
one_more_digit text i h low high = digits_value_more 10 text i h
    ∙ ap (λ d. digits_value 10 (take i text) * 10 + d) (digit_is (get_or text i 0) low high)

pub above_a_front : (limit : ℕ) (text : List ℕ) (i : ℕ) → limit < digits_value 10 (take i text)
    → number_up_to limit text ≡ None
above_a_front limit text i h = too_large limit text
    (let le : digits_value 10 (take i text) ≤ digits_value 10 text = digits_value-take-le 10 text i (omega arith) in
    omega arith)
