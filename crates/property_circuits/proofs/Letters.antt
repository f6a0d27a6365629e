-- The letters i to m of a trace.
use Rattle.std.specs.Prelude.{ℕ, suc, ◌≡◌, ◌⊎◌, ◌<◌, ◌≤◌, ◌+◌, ◌-◌, ◌++◌, List, ◌∷◌, length, take, drop, slice_get}
use Rattle.std.specs.Prelude.{Some, None}
use Rattle.std.proofs.Common.{sym, ap, ◌∙◌, arith, inl, inr, get_or}
use Rattle.std.proofs.lemmas.List.{length-take-le, length-drop, drop-take, drop-drop, take-append-drop, take-take}
use Rattle.std.proofs.lemmas.List.{get_or-take, get_or-drop}
use Rattle.std.proofs.lemmas.Option.{slice_get_within, get_or_from_slice_get, slice_get_cases}
use Rattle.std.proofs.Math.Seq.{drop-cons}
use Rattle.psl_meaning.specs.Word.{Valuation}
use Rattle.sequence_matches.specs.Matches.{letters}

pub value_there : (trace : List Valuation) (n : ℕ) → n < length trace → (v : Valuation) × (slice_get trace n ≡ Some v)
value_there trace n within = split (slice_get_cases trace n).1
  where
    split : ((v : Valuation) × (n < length trace) × (slice_get trace n ≡ Some v) × (get_or trace n v ≡ v))
        ⊎ ((length trace ≤ n) × (slice_get trace n ≡ None)) → (v : Valuation) × (slice_get trace n ≡ Some v)
    split (inl some) = (some.0, some.2)
    split (inr none) = absurd (omega (arith, none.0))

pub letters_begin : (trace : List Valuation) (i m : ℕ) (v : Valuation) → i ≤ m → slice_get trace i ≡ Some v →
    (rest : List Valuation) × (letters trace i m ≡ v ∷ rest)
letters_begin trace i m v ordered at =
    let within = slice_get_within trace i v at in
    let e : drop i trace ≡ v ∷ drop (suc i) trace =
    drop-cons trace i v within
    ∙ ap (λ (x : Valuation). x ∷ drop (suc i) trace) (get_or_from_slice_get trace i v v at) in
    let counted : suc m - i ≡ suc (m - i) = omega arith in (
      take (m - i) (drop (suc i) trace),
      ap (λ (n : ℕ). take n (drop i trace)) counted ∙ ap (λ (xs : List Valuation). take (suc (m - i)) xs) e,
    )

pub letters_later : (trace : List Valuation) (i k m : ℕ) → i ≤ k → k ≤ suc m →
    drop (k - i) (letters trace i m) ≡ letters trace k m
letters_later trace i k m from to =
    let counted : suc m - i ≡ (k - i) + (suc m - k) = omega arith in
    let there : i + (k - i) ≡ k = omega arith in
    ap (λ (n : ℕ). drop (k - i) (take n (drop i trace))) counted
    ∙ drop-take (k - i) (suc m - k) (drop i trace)
    ∙ ap (λ (xs : List Valuation). take (suc m - k) xs) (drop-drop (k - i) i trace ∙ ap (λ (n : ℕ). drop n trace) there)

pub letters_length : (trace : List Valuation) (i m : ℕ) → i ≤ m → m < length trace →
    length (letters trace i m) ≡ suc m - i
letters_length trace i m ordered within =
    length-take-le (suc m - i) (drop i trace) (omega (arith, length-drop i trace))

pub letters_first : (trace : List Valuation) (n : ℕ) → letters trace 0 n ≡ take (suc n) trace
letters_first trace n = let e : suc n - 0 ≡ suc n = omega arith in ap (λ (k : ℕ). take k trace) e

-- the letters i to n begin with the letters i to m
pub letters_grow : (trace : List Valuation) (i m n : ℕ) → m ≤ n →
    letters trace i m ++ drop (suc m - i) (letters trace i n) ≡ letters trace i n
letters_grow trace i m n ordered =
    ap (λ (ls : List Valuation). ls ++ drop (suc m - i) (letters trace i n))
    (sym (take-take (suc m - i) (suc n - i) (drop i trace) (omega arith)))
    ∙ take-append-drop (suc m - i) (letters trace i n)

-- the first of the letters i to m, up to k
pub letters_take : (trace : List Valuation) (i k m : ℕ) → i ≤ k → k ≤ m →
    take (suc (k - i)) (letters trace i m) ≡ letters trace i k
letters_take trace i k m from to =
    let counted : suc (k - i) ≡ suc k - i = omega arith in
    ap (λ (n : ℕ). take n (letters trace i m)) counted
    ∙ take-take (suc k - i) (suc m - i) (drop i trace) (omega arith)

-- the one at place j among them
pub letters_get : (trace : List Valuation) (i k j : ℕ) (d : Valuation) → i ≤ k → k < length trace →
    j < length (letters trace i k) → (v : Valuation) × (slice_get trace (i + j) ≡ Some v)
    × (get_or (letters trace i k) j d ≡ v)
letters_get trace i k j d ordered within inside =
    let counted = letters_length trace i k ordered within in
    let v = value_there trace (i + j) (omega (arith, counted)) in (
      v.0,
      v.1,
      get_or-take (suc k - i) (drop i trace) j d (omega (arith, counted))
          ∙ get_or-drop i trace j d ∙ get_or_from_slice_get trace (i + j) v.0 d v.1,
    )
