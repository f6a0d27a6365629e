-- Lists that belong together element by element, and which is the longer one.
use Rattle.std.proofs.Common.{◌≡◌, refl, sym, ap, subst, zero, suc, ◌≤◌, List, [], ◌∷◌, length, get_or, inl, inr}
use Rattle.std.proofs.Common.{◌⊎◌, arith, AllPairs}
use Rattle.sequence_tables.proofs.Members.{Among, Contains-from_Among, Among-get_or}

module _ {X : Type 0} (D : X → X → Type 0) where
  -- D holds of each element and each later one
  abbrev pub Pairwise : List X → Type 0
  Pairwise [] = Unit {0}
  Pairwise (x ∷ xs) = ((y : X) → Among xs y → D x y) × Pairwise xs

  pub Pairwise-from_AllPairs : (xs : List X) → AllPairs D xs → Pairwise xs
  Pairwise-from_AllPairs [] h = tt
  Pairwise-from_AllPairs (x ∷ xs) h = (
    (λ y k.
        let at = Contains-from_Among xs y k in
        subst (λ (z : X). D x z) at.2 (h 0 (suc at.0) y (omega arith) (omega (arith, at.1)))),
    Pairwise-from_AllPairs xs (λ i j d lt below. h (suc i) (suc j) d (omega (arith, lt)) (omega (arith, below))),
  )

  pub AllPairs-from_Pairwise : (xs : List X) → Pairwise xs → AllPairs D xs
  AllPairs-from_Pairwise [] h i j d lt below = absurd (omega (arith, lt, below))
  AllPairs-from_Pairwise (x ∷ xs) h zero zero d lt below = absurd (omega (arith, lt))
  AllPairs-from_Pairwise (x ∷ xs) h zero (suc j) d lt below =
      h.0 (get_or xs j d) (Among-get_or xs j d (omega (arith, below)))
  AllPairs-from_Pairwise (x ∷ xs) h (suc i) zero d lt below = absurd (omega (arith, lt))
  AllPairs-from_Pairwise (x ∷ xs) h (suc i) (suc j) d lt below =
      AllPairs-from_Pairwise xs h.1 i j d (omega (arith, lt)) (omega (arith, below))

-- ---- no more elements than another list

module _ {Y : Type 0} where
  -- the list without the element at this place
  removed : (ys : List Y) (y : Y) → Among ys y → List Y
  removed [] y k = []
  removed (z ∷ zs) y (inl e) = zs
  removed (z ∷ zs) y (inr k) = z ∷ removed zs y k

  removed_length : (ys : List Y) (y : Y) (k : Among ys y) → length ys ≡ suc (length (removed ys y k))
  unfolding removed
  removed_length [] y k = absurd k
  removed_length (z ∷ zs) y (inl e) = omega arith
  removed_length (z ∷ zs) y (inr k) = omega (arith, removed_length zs y k)

  beside : (ys : List Y) (y : Y) (k : Among ys y) (z : Y) → Among ys z → (y ≡ z) ⊎ Among (removed ys y k) z
  unfolding removed
  beside [] y k z h = absurd k
  beside (x ∷ ys) y (inl e) z (inl f) = inl (cc)
  beside (x ∷ ys) y (inl e) z (inr h) = inr h
  beside (x ∷ ys) y (inr k) z (inl f) = inr (inl f)
  beside (x ∷ ys) y (inr k) z (inr h) = elim (beside ys y k z h) [ inl e ↦ inl e | inr a ↦ inr (inr a) ]

module _ {X Y : Type 0} (R : X → Y → Type 0) where
  -- each of the one list belongs to one of the other, and no two of them to the same
  pub no_more : (xs : List X) (ys : List Y) → Pairwise (λ x z. (y : Y) → R x y → R z y → ⊥) xs →
      ((x : X) → Among xs x → (y : Y) × Among ys y × R x y) → length xs ≤ length ys
  no_more [] ys apart f = omega arith
  no_more (x ∷ xs) ys apart f =
      let (y, k, r) = f x (inl refl) in
      let fewer : length xs ≤ length (removed ys y k) =
      no_more xs (removed ys y k) apart.1 (λ z h.
      let (v, l, s) = f z (inr h) in
      elim (beside ys y k v l) [
        | inl e ↦ absurd (apart.0 z h y r (subst (R z) (sym e) s))
        | inr a ↦ (v, a, s)
      ]) in
      omega (arith, fewer, removed_length ys y k)

-- ---- a list chosen by another

module _ {X Y : Type 0} (P : X → Y → Type 0) where
  pub chosen : (xs : List X) → ((x : X) → Among xs x → (y : Y) × P x y) → List Y
  chosen [] f = []
  chosen (x ∷ xs) f = (f x (inl refl)).0 ∷ chosen xs (λ z k. f z (inr k))

  pub chosen_length : (xs : List X) (f : (x : X) → Among xs x → (y : Y) × P x y) → length (chosen xs f) ≡ length xs
  unfolding chosen
  chosen_length [] f = refl
  chosen_length (x ∷ xs) f = ap suc (chosen_length xs (λ z k. f z (inr k)))

  pub chosen_back : (xs : List X) (f : (x : X) → Among xs x → (y : Y) × P x y) (y : Y) → Among (chosen xs f) y →
      (x : X) × Among xs x × P x y
  unfolding chosen
  chosen_back [] f y h = absurd h
  chosen_back (x ∷ xs) f y (inl e) = (x, inl refl, subst (P x) e (f x (inl refl)).1)
  chosen_back (x ∷ xs) f y (inr h) =
      let (z, k, p) = chosen_back xs (λ z k. f z (inr k)) y h in (z, inr k, p)

  pub chosen_there : (xs : List X) (f : (x : X) → Among xs x → (y : Y) × P x y) (x : X) → Among xs x →
      (y : Y) × Among (chosen xs f) y × P x y
  unfolding chosen
  chosen_there [] f x h = absurd h
  chosen_there (z ∷ xs) f x (inl e) =
      let here = f z (inl refl) in (here.0, inl refl, subst (λ (v : X). P v here.0) e here.1)
  chosen_there (z ∷ xs) f x (inr h) =
      let (y, k, p) = chosen_there xs (λ z k. f z (inr k)) x h in (y, inr k, p)

  pub chosen_pairwise : (D : X → X → Type 0) (E : Y → Y → Type 0) →
      ((x z : X) (y v : Y) → D x z → P x y → P z v → E y v) → (xs : List X)
      (f : (x : X) → Among xs x → (y : Y) × P x y) → Pairwise D xs → Pairwise E (chosen xs f)
  unfolding chosen
  chosen_pairwise D E g [] f h = tt
  chosen_pairwise D E g (x ∷ xs) f h = (
    (λ v k.
        let here = f x (inl refl) in
        let (z, l, p) = chosen_back xs (λ z k. f z (inr k)) v k in
        g x z here.0 v (h.0 z l) here.1 p),
    chosen_pairwise D E g xs (λ z k. f z (inr k)) h.1,
  )
