-- Numbers in order.
use Rattle.std.proofs.Common.{◌≡◌, ℕ, zero, suc, ◌<◌, ◌≤◌, List, [], ◌∷◌, length, get_or, Ok, Err, inl, inr}
use Rattle.std.proofs.Common.{◌⊎◌, refl, sym, ap, ◌∙◌, subst, arith, slice_get, Some}
use Rattle.std.specs.List.{AllByRecursion, insert}
use Rattle.std.specs.List.Sorted.{IsBinarySearchResult}
use Rattle.std.specs.Ordering.{nat_cmp}
use Rattle.std.proofs.lemmas.List.Sorted.{searched}
use Rattle.weak_determinise.proofs.Members.{Among, ByRecursion-among, ByRecursion-from}
use Rattle.weak_determinise.proofs.Once.{Among-slice_get}
use Rattle.weak_determinise.specs.inner.Numbers.{IsRising, PutsIn}

Among-insert : (x : ℕ) (xs : List ℕ) (i : ℕ) → i ≤ length xs → (y : ℕ) → Among (insert xs i x) y → (y ≡ x) ⊎ Among xs y
Among-insert x [] zero le y (inl e) = inl (sym e)
Among-insert x [] zero le y (inr h) = absurd h
Among-insert x [] (suc i) le y h = absurd (omega arith)
Among-insert x (z ∷ zs) zero le y (inl e) = inl (sym e)
Among-insert x (z ∷ zs) zero le y (inr h) = inr h
Among-insert x (z ∷ zs) (suc i) le y (inl e) = inr (inl e)
Among-insert x (z ∷ zs) (suc i) le y (inr h) = elim (Among-insert x zs i (omega arith) y h) [
  | inl e ↦ inl e
  | inr k ↦
      inr (inr k)
]

Among-insert_back : (x : ℕ) (xs : List ℕ) (i : ℕ) → i ≤ length xs → (y : ℕ) → (y ≡ x) ⊎ Among xs y →
    Among (insert xs i x) y
Among-insert_back x [] zero le y (inl e) = inl (sym e)
Among-insert_back x [] zero le y (inr h) = absurd h
Among-insert_back x [] (suc i) le y h = absurd (omega arith)
Among-insert_back x (z ∷ zs) zero le y (inl e) = inl (sym e)
Among-insert_back x (z ∷ zs) zero le y (inr h) = inr h
Among-insert_back x (z ∷ zs) (suc i) le y (inl e) = inr (Among-insert_back x zs i (omega arith) y (inl e))
Among-insert_back x (z ∷ zs) (suc i) le y (inr (inl e)) = inl e
Among-insert_back x (z ∷ zs) (suc i) le y (inr (inr h)) = inr (Among-insert_back x zs i (omega arith) y (inr h))

above : (x : ℕ) (xs : List ℕ) → ((k : ℕ) → k < length xs → x < get_or xs k 0) → AllByRecursion (λ y. x < y) xs
above x [] h = tt
above x (y ∷ ys) h = (h 0 (omega arith), above x ys (λ k lt. h (suc k) (omega arith)))

insert-rising : (x : ℕ) (xs : List ℕ) (i : ℕ) → IsRising xs → i ≤ length xs → ((k : ℕ) → k < i → get_or xs k 0 < x) →
    ((k : ℕ) → i ≤ k → k < length xs → x < get_or xs k 0) → IsRising (insert xs i x)
insert-rising x [] zero rising le small great = (tt, tt)
insert-rising x [] (suc i) rising le small great = absurd (omega arith)
insert-rising x (y ∷ ys) zero rising le small great = (above x (y ∷ ys) (λ k lt. great k (omega arith) lt), rising)
insert-rising x (y ∷ ys) (suc i) rising le small great = (
  ByRecursion-from (λ z. y < z) (insert ys i x) (λ z h. elim (Among-insert x ys i (omega arith) z h) [
    | inl e ↦ let lt : y < x = small 0 (omega arith) in omega (arith, e)
    | inr k ↦ ByRecursion-among (λ z. y < z) ys z rising.0 k
  ]),
  insert-rising x ys i rising.1 (omega arith) (λ k lt. small (suc k) (omega arith)) (λ k le lt. great (suc k)
      (omega arith) (omega arith)),
)

rises : (xs : List ℕ) → IsRising xs → (i j : ℕ) → i ≤ j → j < length xs → get_or xs i 0 ≤ get_or xs j 0
rises [] h i j le lt = absurd (omega arith)
rises (x ∷ xs) h zero zero le lt = omega arith
rises (x ∷ xs) h zero (suc j) le lt = let l : x < get_or xs j 0 = at xs h.0 j (omega arith) in omega (arith, l)
  where
    at : (ys : List ℕ) → AllByRecursion (λ y. x < y) ys → (k : ℕ) → k < length ys → x < get_or ys k 0
    at [] all k lt = absurd (omega arith)
    at (y ∷ ys) all zero lt = all.0
    at (y ∷ ys) all (suc k) lt = at ys all.1 k (omega arith)
rises (x ∷ xs) h (suc i) zero le lt = absurd (omega arith)
rises (x ∷ xs) h (suc i) (suc j) le lt = rises xs h.1 i j (omega arith) (omega arith)

slice_get-at : (xs : List ℕ) (i : ℕ) → i < length xs → slice_get xs i ≡ Some (get_or xs i 0)
slice_get-at [] i lt = absurd (omega arith)
slice_get-at (x ∷ xs) zero lt = refl
slice_get-at (x ∷ xs) (suc i) lt = slice_get-at xs i (omega arith)

module _ (x : ℕ) (xs : List ℕ) (rising : IsRising xs) where
  pub there : (i : ℕ) → IsBinarySearchResult (λ y. nat_cmp y x) xs (Ok i) → PutsIn x xs xs
  there i found =
      let (lt, e) = searched xs x (Ok i) found (rises xs rising) in
      record {
        rising = rising;
        members = λ y. (
          (λ h. inr h),
          (λ h. elim h [
            | inl f ↦ subst (Among xs) (sym f) (Among-slice_get xs i x
                (slice_get-at xs i lt ∙ ap (λ (z : ℕ). Some z) e))
            | inr k ↦ k
          ]),
        );
      }

  pub found_at : (i : ℕ) → IsBinarySearchResult (λ y. nat_cmp y x) xs (Ok i) → slice_get xs i ≡ Some x
  found_at i found = let (lt, e) = searched xs x (Ok i) found (rises xs rising) in slice_get-at xs i lt ∙ ap (λ
      (z : ℕ). Some z) e

  pub put_at : (i : ℕ) → IsBinarySearchResult (λ y. nat_cmp y x) xs (Err i) → PutsIn x xs (insert xs i x)
  put_at i parted =
      let (le, small, great) = searched xs x (Err i) parted (rises xs rising) in
      record {
        rising = insert-rising x xs i rising le small great;
        members = λ y. (Among-insert x xs i le y, Among-insert_back x xs i le y);
      }

  pub not_absent : (i : ℕ) → IsBinarySearchResult (λ y. nat_cmp y x) xs (Err i) → Among xs x → ⊥
  not_absent i parted h =
      let (le, small, great) = searched xs x (Err i) parted (rises xs rising) in
      apart xs i small great h
    where
      apart : (ys : List ℕ) (i : ℕ) → ((k : ℕ) → k < i → get_or ys k 0 < x) → ((k : ℕ) → i ≤ k → k < length ys →
          x < get_or ys k 0) → Among ys x → ⊥
      apart [] i small great h = h
      apart (y ∷ ys) zero small great (inl e) = let l = great 0 (omega arith) (omega arith) in omega (arith, l, e)
      apart (y ∷ ys) (suc i) small great (inl e) = let l = small 0 (omega arith) in omega (arith, l, e)
      apart (y ∷ ys) zero small great (inr h) = apart ys zero (λ k lt. absurd (omega arith)) (λ k le lt. great (suc k)
          (omega arith) (omega arith)) h
      apart (y ∷ ys) (suc i) small great (inr h) = apart ys i (λ k lt. small (suc k) (omega arith)) (λ k le lt. great
          (suc k) (omega arith) (omega arith)) h

-- two rising lists with the same members are one list
pub rising_determined : (xs ys : List ℕ) → IsRising xs → IsRising ys → ((z : ℕ) → Among xs z → Among ys z) → ((z : ℕ) →
    Among ys z → Among xs z) → xs ≡ ys
rising_determined [] [] rx ry f g = refl
rising_determined [] (y ∷ ys) rx ry f g = absurd (g y (inl refl))
rising_determined (x ∷ xs) [] rx ry f g = absurd (f x (inl refl))
rising_determined (x ∷ xs) (y ∷ ys) rx ry f g =
    let same : x ≡ y = elim (f x (inl refl)) [
      | inl e ↦ sym e
      | inr h ↦ elim (g y (inl refl)) [
        | inl e ↦ e
        | inr k ↦ let a : x < y = ByRecursion-among (λ z. x < z) xs y rx.0 k in let b : y < x = ByRecursion-among
            (λ z. y < z) ys x ry.0 h in absurd (omega arith)
      ]
    ] in
    let into : (z : ℕ) → Among xs z → Among ys z = λ z h. elim (f z (inr h)) [
      | inl e ↦ let a : x < z = ByRecursion-among (λ z. x < z) xs z rx.0 h in absurd (omega (arith, e))
      | inr k ↦ k
    ] in
    let out : (z : ℕ) → Among ys z → Among xs z = λ z h. elim (g z (inr h)) [
      | inl e ↦ let a : y < z = ByRecursion-among (λ z. y < z) ys z ry.0 h in absurd (omega (arith, e))
      | inr k ↦ k
    ] in
    ap (λ (z : ℕ). z ∷ xs) same ∙ ap (λ (s : List ℕ). y ∷ s) (rising_determined xs ys rx.1 ry.1 into out)
