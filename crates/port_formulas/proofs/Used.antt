-- The places that a formula uses, as a list.
use Rattle.std.proofs.Common.{◌≡◌, ◌⊎◌, inl, inr, ℕ, zero, suc, ◌+◌, ◌<◌, ◌≤◌, Bool, true, false, cond, List, []}
use Rattle.std.proofs.Common.{◌∷◌, length, get_or, replicate, refl, sym, ap, ◌∙◌, arith, subst, add-one}
use Rattle.std.specs.Prelude.{◌||◌, filter, slice_index, All, Contains, IsTrue, ◌↔◌}
use Rattle.std.specs.List.{range_with_len}
use Rattle.std.specs.List.Sorted.{IsStrictlyIncreasing}
use Rattle.std.proofs.lemmas.Bool.{cases_lt}
use Rattle.std.proofs.lemmas.List.{get_or-replicate, length-replicate}
use Rattle.std.proofs.lemmas.List.Elements.{All-filter, All-contains, All-from_get_or, filter_passes}
use Rattle.std.proofs.lemmas.List.FromFn.{get_or-range_with_len, length-range_with_len}
use Rattle.psl_model.specs.Formula.{Formula}
use Rattle.psl_model.specs.Uses.{formula_uses, below, used_places}
use Rattle.port_formulas.specs.inner.Marks.{marked_formula}
use Rattle.port_formulas.proofs.Marks.{formula_marked}

-- ---- the numbers below a count

abbrev numbers_from : (n k : ℕ) → List ℕ
numbers_from zero k = []
numbers_from (suc n) k = k ∷ numbers_from n (suc k)

numbers_are : (n k : ℕ) → numbers_from n k ≡ range_with_len k n
numbers_are zero k = refl
numbers_are (suc n) k =
    ap (λ (l : List ℕ). k ∷ l) (numbers_are n (suc k) ∙ ap (λ (j : ℕ). range_with_len j n) (sym (add-one k)))

pub below_is : (n : ℕ) → below n ≡ range_with_len 0 n
below_is n = numbers_are n 0

-- ---- what a filter of these numbers keeps

filter_alike : (p q : ℕ → Bool) (n a : ℕ) → ((k : ℕ) → a ≤ k → k < a + n → p k ≡ q k) →
    filter p (range_with_len a n) ≡ filter q (range_with_len a n)
filter_alike p q zero a same = refl
filter_alike p q (suc n) a same =
    let rest = filter_alike p q n (a + 1) (λ k above less. same k (omega arith) (omega arith)) in
    let here : p a ≡ q a = same a (omega arith) (omega arith) in
    λ i. cond (here i) (a ∷ rest i) (rest i)

pub marked_used : (f : Formula) (count : ℕ) →
    filter (λ k. get_or (marked_formula f (replicate count false)) k false)
    (range_with_len 0 (length (marked_formula f (replicate count false)))) ≡ used_places count f
marked_used f count =
    let ms = replicate count false in
    let marked = formula_marked f ms in
    let size : length (marked_formula f ms) ≡ count = marked.0 ∙ length-replicate count false in
    ap (λ (n : ℕ). filter (λ k. get_or (marked_formula f ms) k false) (range_with_len 0 n)) size
    ∙ filter_alike (λ k. get_or (marked_formula f ms) k false) (λ k. formula_uses k f) count 0
    (λ k above less.
    let within : k < count = omega arith in
    let there : k < length ms = omega (arith, length-replicate count false) in
    marked.1 k there ∙ ap (λ (b : Bool). b || formula_uses k f) (get_or-replicate count k false false within))
    ∙ ap (filter (λ k. formula_uses k f)) (sym (below_is count))

-- ---- laws of the list

range_below : (count : ℕ) → All (λ k. k < count) (range_with_len 0 count)
range_below count =
    All-from_get_or (λ k. k < count) (range_with_len 0 count) 0
    (λ i less.
    let size = length-range_with_len 0 count in
    let within : i < count = omega (arith, size) in
    let is = get_or-range_with_len 0 count i 0 within in
    omega (arith, is))

pub used_below : (count : ℕ) (f : Formula) → All (λ k. k < count) (used_places count f)
used_below count f =
    subst (λ (l : List ℕ). All (λ k. k < count) (filter (λ k. formula_uses k f) l)) (sym (below_is count))
    (All-filter (λ k. formula_uses k f) (λ k. k < count) (range_with_len 0 count) (range_below count))

kept : (b : Bool) (a p : ℕ) (rest : List ℕ) → Contains rest p → Contains (cond b (a ∷ rest) rest) p
kept true a p rest (k, within, here) = (suc k, omega arith, here)
kept false a p rest there = there

first_kept : (b : Bool) (a : ℕ) (rest : List ℕ) → b ≡ true → Contains (cond b (a ∷ rest) rest) a
first_kept true a rest is = (0, omega arith, refl)
first_kept false a rest is = absurd (cc)

members : (q : ℕ → Bool) (n a p : ℕ) → a ≤ p → p < a + n → q p ≡ true → Contains (filter q (range_with_len a n)) p
members q zero a p above less is = absurd (omega arith)
members q (suc n) a p above less is = pick (cases_lt a p) (λ past. members q n (a + 1) p past (omega arith) is)
  where
    pick : (a < p) ⊎ (p ≤ a) → ((a + 1 ≤ p) → Contains (filter q (range_with_len (a + 1) n)) p) →
        Contains (filter q (range_with_len a (suc n))) p
    pick (inl past) rest = kept (q a) a p (filter q (range_with_len (a + 1) n)) (rest (omega arith))
    pick (inr here) rest =
        let same : a ≡ p = omega arith in
        subst (λ (k : ℕ). Contains (filter q (range_with_len a (suc n))) k) same
        (first_kept (q a) a (filter q (range_with_len (a + 1) n)) (ap q same ∙ is))

used_to : (count : ℕ) (f : Formula) (p : ℕ) → Contains (used_places count f) p → (p < count) × IsTrue (formula_uses p f)
used_to count f p there = (
  All-contains (λ k. k < count) (used_places count f) p (used_below count f) there,
  All-contains (λ k. formula_uses k f ≡ true) (used_places count f) p
      (filter_passes (λ k. formula_uses k f) (below count)) there,
)

used_back : (count : ℕ) (f : Formula) (p : ℕ) → (p < count) × IsTrue (formula_uses p f) →
    Contains (used_places count f) p
used_back count f p (less, used) =
    subst (λ (l : List ℕ). Contains (filter (λ k. formula_uses k f) l) p) (sym (below_is count))
    (members (λ k. formula_uses k f) count 0 p (omega arith) (omega arith) used)

pub used_exactly : (count : ℕ) (f : Formula) (p : ℕ) →
    Contains (used_places count f) p ↔ ((p < count) × IsTrue (formula_uses p f))
used_exactly count f p = (used_to count f p, used_back count f p)

-- ---- in ascending order

abbrev Rising : (a : ℕ) → List ℕ → Type 0
Rising a [] = Unit {0}
Rising a (x ∷ xs) = (a ≤ x) × Rising (suc x) xs

lower : (a b : ℕ) (xs : List ℕ) → a ≤ b → Rising b xs → Rising a xs
lower a b [] le rising = tt
lower a b (x ∷ xs) le rising = (omega (arith, rising.0), rising.1)

rising_kept : (b : Bool) (a : ℕ) (rest : List ℕ) → Rising (suc a) rest → Rising a (cond b (a ∷ rest) rest)
rising_kept true a rest rising = (omega arith, rising)
rising_kept false a rest rising = lower a (suc a) rest (omega arith) rising

filter_rising : (q : ℕ → Bool) (n a : ℕ) → Rising a (filter q (range_with_len a n))
filter_rising q zero a = tt
filter_rising q (suc n) a =
    rising_kept (q a) a (filter q (range_with_len (a + 1) n))
    (subst (λ (k : ℕ). Rising k (filter q (range_with_len (a + 1) n))) (add-one a) (filter_rising q n (a + 1)))

rising_steps : (a : ℕ) (xs : List ℕ) → Rising a xs → (k : ℕ) → suc k < length xs →
    slice_index xs k < slice_index xs (suc k)
rising_steps a [] rising k less = absurd (omega arith)
rising_steps a (x ∷ []) rising k less = absurd (omega arith)
rising_steps a (x ∷ y ∷ xs) rising zero less = omega (arith, rising.1.0)
rising_steps a (x ∷ y ∷ xs) rising (suc k) less = rising_steps (suc x) (y ∷ xs) rising.1 k (omega arith)

pub used_ascend : (count : ℕ) (f : Formula) → IsStrictlyIncreasing (used_places count f)
used_ascend count f k less =
    let rising : Rising 0 (used_places count f) =
    subst (λ (l : List ℕ). Rising 0 (filter (λ k. formula_uses k f) l)) (sym (below_is count))
    (filter_rising (λ k. formula_uses k f) count 0) in
    subst (λ (j : ℕ). slice_index (used_places count f) k < slice_index (used_places count f) j) (sym (add-one k))
    (rising_steps 0 (used_places count f) rising k (omega arith))
