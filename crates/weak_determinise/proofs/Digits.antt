-- Numbers by their digits, the lowest first.
use Rattle.std.proofs.Common.{◌≡◌, ℕ, suc, ◌+◌, ◌*◌, ◌/◌, ◌%◌, ◌^◌, ◌-◌, ◌<◌, ◌≤◌, Bool, true, false, eqb, cond}
use Rattle.std.proofs.Common.{List, [], ◌∷◌, ◌++◌, length, refl, ap, ◌∙◌, subst, arith, add-one}
use Rattle.std.proofs.Math.Nat.{pow-suc}
use Rattle.std.proofs.lemmas.Bool.Decides.{nat_tests}
use Rattle.weak_determinise.specs.Nodes.{number_of}

pub number_of-push : (bits : List Bool) (b : Bool) → number_of (bits ++ b ∷ []) ≡ number_of bits + 2 ^ length bits *
    cond b 1 0
number_of-push [] true = refl
number_of-push [] false = refl
number_of-push (true ∷ bs) b = let h = number_of-push bs b in grind (arith, h)
number_of-push (false ∷ bs) b = let h = number_of-push bs b in grind (arith, h)

-- two lists of one length with one number are one list
pub digits_determined : (a b : List Bool) → length a ≡ length b → number_of a ≡ number_of b → a ≡ b
digits_determined [] [] l e = refl
digits_determined [] (y ∷ ys) l e = absurd (omega arith)
digits_determined (x ∷ xs) [] l e = absurd (omega arith)
digits_determined (true ∷ xs) (true ∷ ys) l e = ap (λ (s : List Bool). true ∷ s) (digits_determined xs ys (omega arith)
    (omega arith))
digits_determined (false ∷ xs) (false ∷ ys) l e = ap (λ (s : List Bool). false ∷ s) (digits_determined xs ys
    (omega arith) (omega arith))
digits_determined (true ∷ xs) (false ∷ ys) l e = absurd (omega arith)
digits_determined (false ∷ xs) (true ∷ ys) l e = absurd (omega arith)

halves : (rest : ℕ) (b : Bool) (half : ℕ) → b ≡ eqb (rest % 2) 1 → half ≡ rest / 2 → rest ≡ cond b 1 0 + 2 * half
halves rest true half digit is = grind (arith, nat_tests)
halves rest false half digit is = grind (arith, nat_tests)

finish : (n p q d h r number new : ℕ) → new ≡ n + p * d → p * r ≡ p * (d + 2 * h) → q ≡ p * 2 → n + p * r ≡ number →
    new + q * h ≡ number
finish n p q d h r number new is split power e =
    let whole : q * h ≡ (p * 2) * h = ap (λ (z : ℕ). z * h) power in
    omega (arith, is, split, whole, e)

-- the digits with one more, and the half of the rest, are the number still
pub digit_taken : (number rest half count : ℕ) (bits : List Bool) (b : Bool) → length bits ≡ count →
    number_of bits + 2 ^ count * rest ≡ number → b ≡ eqb (rest % 2) 1 → half ≡ rest / 2
    → number_of (bits ++ b ∷ []) + 2 ^ (count + 1) * half ≡ number
digit_taken number rest half count bits b l e digit is =
    let whole : rest ≡ cond b 1 0 + 2 * half = halves rest b half digit is in
    let pushed : number_of (bits ++ b ∷ []) ≡ number_of bits + 2 ^ count * cond b 1 0 = subst (λ (n : ℕ). number_of
    (bits ++ b ∷ []) ≡ number_of bits + 2 ^ n * cond b 1 0) l (number_of-push bits b) in
    let split : 2 ^ count * rest ≡ 2 ^ count * (cond b 1 0 + 2 * half) = ap (λ (n : ℕ). 2 ^ count * n) whole in
    let power : 2 ^ (count + 1) ≡ 2 ^ count * 2 = ap (λ (n : ℕ). 2 ^ n) (add-one count) ∙ pow-suc 2 count in
    finish (number_of bits) (2 ^ count) (2 ^ (count + 1)) (cond b 1 0) half rest number (number_of
    (bits ++ b ∷ [])) pushed split power e

pub half_small : (rest count place : ℕ) → place < count → rest < 2 ^ (count - place) →
    rest / 2 < 2 ^ (count - (place + 1))
half_small rest count place lt small =
    let less : count - place ≡ suc (count - (place + 1)) = omega arith in
    let power : 2 ^ (count - place) ≡ 2 ^ (count - (place + 1)) * 2 = ap (λ (n : ℕ). 2 ^ n) less ∙ pow-suc 2 (count -
    (place + 1)) in
    below rest (2 ^ (count - (place + 1))) (2 ^ (count - place)) power small
  where
    below : (rest p q : ℕ) → q ≡ p * 2 → rest < q → rest / 2 < p
    below rest p q e lt = omega (arith, e, lt)

pub none_left : (number rest count place n : ℕ) → count ≤ place → n + 2 ^ place * rest ≡ number →
    rest < 2 ^ (count - place) → n ≡ number
none_left number rest count place n all e small =
    let nothing : count - place ≡ 0 = omega arith in
    let one : 2 ^ (count - place) ≡ 1 = ap (λ (k : ℕ). 2 ^ k) nothing in
    let none : rest ≡ 0 = omega (arith, one, small) in
    let left : 2 ^ place * rest ≡ 2 ^ place * 0 = ap (λ (k : ℕ). 2 ^ place * k) none in
    omega (arith, left, e)

pub number_below : (bits : List Bool) → number_of bits < 2 ^ length bits
number_below [] = omega arith
number_below (true ∷ bs) = let h = number_below bs in let p : 2 ^ suc (length bs) ≡ 2 ^ length bs * 2 = pow-suc 2
    (length bs) in omega (arith, h, p)
number_below (false ∷ bs) = let h = number_below bs in let p : 2 ^ suc (length bs) ≡ 2 ^ length bs * 2 = pow-suc 2
    (length bs) in omega (arith, h, p)
