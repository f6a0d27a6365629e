-- Rising lists with the same members are one list.
use Rattle.std.proofs.Common.{zero, suc, ◌≡◌, ℕ, ◌<◌, ◌⊎◌, inl, inr, List, [], ◌∷◌, get_or, refl, ◌∙◌, ap}
use Rattle.std.proofs.Common.{subst, arith}
use Rattle.std.specs.Prelude.{AllPairs, Contains}

abbrev pub AreRising : List ℕ → Type 0
AreRising times = AllPairs (λ earlier later. earlier < later) times

rising_tail : (x : ℕ) (xs : List ℕ) → AreRising (x ∷ xs) → AreRising xs
rising_tail x xs rising i j d low inside = rising (suc i) (suc j) d (omega (arith, low)) (omega (arith, inside))

below_tail : (x t : ℕ) (xs : List ℕ) → AreRising (x ∷ xs) → Contains xs t → x < t
below_tail x t xs rising (k, inside, is) =
    let less : get_or (x ∷ xs) 0 t < get_or (x ∷ xs) (suc k) t =
    rising 0 (suc k) t (omega arith) (omega (arith, inside)) in
    subst (λ n. x < n) is less

in_cons : (x t : ℕ) (xs : List ℕ) → Contains xs t → Contains (x ∷ xs) t
in_cons x t xs (k, inside, is) = (suc k, omega (arith, inside), is)

head_or_tail : (x t : ℕ) (xs : List ℕ) → Contains (x ∷ xs) t → (x ≡ t) ⊎ Contains xs t
head_or_tail x t xs (zero, inside, is) = inl is
head_or_tail x t xs (suc k, inside, is) = inr (k, omega (arith, inside), is)

one_head : (x y : ℕ) (xs ys : List ℕ) → AreRising (x ∷ xs) → AreRising (y ∷ ys) → Contains (y ∷ ys) x
    → Contains (x ∷ xs) y → x ≡ y
one_head x y xs ys rising_x rising_y has_x has_y = elim (head_or_tail y x ys has_x) [
  | inl same ↦ omega (arith, same)
  | inr later_x ↦ elim (head_or_tail x y xs has_y) [
    | inl same ↦ same
    | inr later_y ↦
        let a : y < x = below_tail y x ys rising_y later_x in
        let b : x < y = below_tail x y xs rising_x later_y in
        absurd (omega arith)
  ]
]

past_head : (y t : ℕ) (ys : List ℕ) → y < t → Contains (y ∷ ys) t → Contains ys t
past_head y t ys above has = elim (head_or_tail y t ys has) [
  | inl same ↦ absurd (omega (arith, same, above))
  | inr later ↦ later
]

pub same_members : (xs ys : List ℕ) → AreRising xs → AreRising ys → ((t : ℕ) → Contains xs t → Contains ys t)
    → ((t : ℕ) → Contains ys t → Contains xs t) → xs ≡ ys
same_members [] [] rising_x rising_y to from = refl
same_members [] (y ∷ ys) rising_x rising_y to from =
    let has : Contains [] y = from y (0, omega arith, refl) in absurd (omega (arith, has.1))
same_members (x ∷ xs) [] rising_x rising_y to from =
    let has : Contains [] x = to x (0, omega arith, refl) in absurd (omega (arith, has.1))
same_members (x ∷ xs) (y ∷ ys) rising_x rising_y to from =
    let head : x ≡ y = one_head x y xs ys rising_x rising_y (to x (0, omega arith, refl))
    (from y (0, omega arith, refl)) in
    let tail : xs ≡ ys = same_members xs ys (rising_tail x xs rising_x) (rising_tail y ys rising_y)
    (λ t has. let low : x < t = below_tail x t xs rising_x has in
    past_head y t ys (omega (arith, head, low)) (to t (in_cons x t xs has)))
    (λ t has. let low : y < t = below_tail y t ys rising_y has in
    past_head x t xs (omega (arith, head, low)) (from t (in_cons y t ys has))) in
    ap (λ (z : ℕ). z ∷ xs) head ∙ ap (λ (zs : List ℕ). y ∷ zs) tail
