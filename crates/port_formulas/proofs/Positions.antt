-- How the table of positions and the list of places grow.
use Rattle.std.proofs.Common.{◌≡◌, ◌≢◌, ◌⊎◌, inl, inr, ℕ, zero, suc, ◌+◌, ◌<◌, Bool, true, false, cond, eqb, List}
use Rattle.std.proofs.Common.{[], ◌∷◌, ◌++◌}
use Rattle.std.proofs.Common.{length, get_or, drop, refl, sym, ap, ◌∙◌, arith, add-one, drop-cons}
use Rattle.std.specs.Prelude.{filter, not}
use Rattle.std.specs.List.{range_with_len}
use Rattle.std.proofs.Math.Seq.{drop-length}
use Rattle.std.proofs.lemmas.Bool.{eq-eqb}
use Rattle.std.proofs.lemmas.Bool.Decides.{eqb_tells}
use Rattle.port_formulas.specs.Chosen.{position_in}

-- what is pushed is told of a number past the end already
pub get_or_pushed : (xs : List ℕ) (d k : ℕ) → get_or (xs ++ d ∷ []) k d ≡ get_or xs k d
get_or_pushed [] d zero = refl
get_or_pushed [] d (suc k) = refl
get_or_pushed (x ∷ xs) d zero = refl
get_or_pushed (x ∷ xs) d (suc k) = get_or_pushed xs d k

pub no_places : (places : List ℕ) (s : ℕ) →
    length places + position_in (drop (length places) places) s ≡ length places
no_places places s =
    let none : length places + 0 ≡ length places = omega arith in
    ap (λ (l : List ℕ). length places + position_in l s) (drop-length places) ∙ none

first_place : (p s : ℕ) (places : List ℕ) (b : Bool) → eqb p s ≡ b →
    position_in (p ∷ places) s ≡ cond (not b) (1 + position_in places s) 0
first_place p s places b is = ap (λ (c : Bool). cond (not c) (1 + position_in places s) 0) is

unequal : (a b : ℕ) → a ≢ b → ((eqb a b ≡ true) × (a ≡ b)) ⊎ ((eqb a b ≡ false) × (a ≢ b)) → eqb a b ≡ false
unequal a b other (inl (is, same)) = absurd (other same)
unequal a b other (inr (is, unlike)) = is

pub here_first : (places : List ℕ) (i s : ℕ) → i < length places → get_or places i 0 ≡ s →
    i + position_in (drop i places) s ≡ i
here_first places i s within here =
    ap (λ (l : List ℕ). i + position_in l s) (drop-cons places i 0 within)
    ∙ ap (λ (k : ℕ). i + k) (first_place (get_or places i 0) s (drop (suc i) places) true
    (eq-eqb (get_or places i 0) s here))
    ∙ (let e : i + 0 ≡ i = omega arith in e)

pub later_first : (places : List ℕ) (i s : ℕ) → i < length places → get_or places i 0 ≢ s →
    i + position_in (drop i places) s ≡ i + 1 + position_in (drop (i + 1) places) s
later_first places i s within other =
    let rest = position_in (drop (suc i) places) s in
    let one : i + (1 + rest) ≡ i + 1 + rest = omega arith in
    ap (λ (l : List ℕ). i + position_in l s) (drop-cons places i 0 within)
    ∙ ap (λ (k : ℕ). i + k) (first_place (get_or places i 0) s (drop (suc i) places) false
    (unequal (get_or places i 0) s other (eqb_tells (get_or places i 0) s)))
    ∙ one ∙ ap (λ (k : ℕ). i + 1 + position_in (drop k places) s) (sym (add-one i))

-- how the table goes on from place to place, from the last one down
pub ruleset turns = (no_places, here_first, later_first)

joined : (b : Bool) (a : ℕ) (xs ys more : List ℕ) → xs ≡ ys ++ more →
    cond b (a ∷ xs) xs ≡ cond b (a ∷ ys) ys ++ more
joined true a xs ys more same = ap (λ (l : List ℕ). a ∷ l) same
joined false a xs ys more same = same

pub range_more : (p : ℕ → Bool) (n a : ℕ) →
    filter p (range_with_len a (suc n)) ≡ filter p (range_with_len a n) ++ cond (p (a + n)) ((a + n) ∷ []) []
range_more p zero a = ap (λ (k : ℕ). cond (p k) (k ∷ []) []) (let e : a ≡ a + 0 = omega arith in e)
range_more p (suc n) a =
    let shift : a + 1 + n ≡ a + suc n = omega arith in
    joined (p a) a (filter p (range_with_len (a + 1) (suc n))) (filter p (range_with_len (a + 1) n))
    (cond (p (a + suc n)) ((a + suc n) ∷ []) [])
    (range_more p n (a + 1)
    ∙ ap (λ (k : ℕ). filter p (range_with_len (a + 1) n) ++ cond (p k) (k ∷ []) []) shift)

pub kept_more : (p : ℕ → Bool) (n : ℕ) (xs : List ℕ) → xs ≡ filter p (range_with_len 0 n) → p n ≡ true →
    xs ++ n ∷ [] ≡ filter p (range_with_len 0 (n + 1))
kept_more p n xs same passes =
    let at : 0 + n ≡ n = omega arith in
    ap (λ (l : List ℕ). l ++ n ∷ []) same
    ∙ ap (λ (b : Bool). filter p (range_with_len 0 n) ++ cond b (n ∷ []) []) (sym passes)
    ∙ ap (λ (k : ℕ). filter p (range_with_len 0 n) ++ cond (p k) (k ∷ []) []) (sym at)
    ∙ sym (range_more p n 0) ∙ ap (λ (k : ℕ). filter p (range_with_len 0 k)) (sym (add-one n))

append_none : (xs : List ℕ) → xs ++ [] ≡ xs
append_none [] = refl
append_none (x ∷ xs) = ap (λ (l : List ℕ). x ∷ l) (append_none xs)

pub left_out : (p : ℕ → Bool) (n : ℕ) (xs : List ℕ) → xs ≡ filter p (range_with_len 0 n) → p n ≡ false →
    xs ≡ filter p (range_with_len 0 (n + 1))
left_out p n xs same fails =
    let at : 0 + n ≡ n = omega arith in
    same ∙ sym (append_none (filter p (range_with_len 0 n)))
    ∙ ap (λ (b : Bool). filter p (range_with_len 0 n) ++ cond b (n ∷ []) []) (sym fails)
    ∙ ap (λ (k : ℕ). filter p (range_with_len 0 n) ++ cond (p k) (k ∷ []) []) (sym at)
    ∙ sym (range_more p n 0) ∙ ap (λ (k : ℕ). filter p (range_with_len 0 k)) (sym (add-one n))
