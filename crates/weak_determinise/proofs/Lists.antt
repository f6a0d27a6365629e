-- Members of lists under maps, properties of all members, and lists that are no longer than others.
use Rattle.std.proofs.Common.{◌≡◌, ℕ, zero, suc, ◌+◌, ◌<◌, ◌≤◌, ◌⊎◌, List, [], ◌∷◌, ◌++◌, length, get_or, map, take}
use Rattle.std.proofs.Common.{slice_get, Some, inl, inr, refl, sym, ap, ◌∙◌, subst, arith, All}
use Rattle.std.proofs.lemmas.List.Elements.{All-contains}
use Rattle.weak_determinise.proofs.Members.{Among, Contains-from_Among}
use Rattle.weak_determinise.proofs.Once.{Apart}

pub map-agree : {X Y : Type 0} (f g : X → Y) (xs : List X) → ((x : X) → Among xs x → f x ≡ g x) → map f xs ≡ map g xs
map-agree f g [] h = refl
map-agree f g (x ∷ xs) h = ap (λ (y : _). y ∷ map f xs) (h x (inl refl))
    ∙ ap (λ (s : List _). g x ∷ s) (map-agree f g xs (λ y k. h y (inr k)))

pub Among-map : {X Y : Type 0} (f : X → Y) (xs : List X) (x : X) → Among xs x → Among (map f xs) (f x)
Among-map f [] x h = h
Among-map f (y ∷ xs) x (inl e) = inl (ap f e)
Among-map f (y ∷ xs) x (inr h) = inr (Among-map f xs x h)

pub map-Among : {X Y : Type 0} (f : X → Y) (xs : List X) (y : Y) → Among (map f xs) y → (x : X) × Among xs x × (f x ≡ y)
map-Among f [] y h = absurd h
map-Among f (x ∷ xs) y (inl e) = (x, inl refl, e)
map-Among f (x ∷ xs) y (inr h) = let (z, k, e) = map-Among f xs y h in (z, inr k, e)

pub All-among : {X : Type 0} (P : X → Type 0) (xs : List X) (x : X) → All P xs → Among xs x → P x
All-among P xs x all h = All-contains P xs x all (Contains-from_Among xs x h)

pub All-from_among : {X : Type 0} (P : X → Type 0) (xs : List X) → ((x : X) → Among xs x → P x) → All P xs
All-from_among P xs f k d lt = f (get_or xs k d) (at xs k d lt)
  where
    at : {X : Type 0} (xs : List X) (k : ℕ) (d : X) → k < length xs → Among xs (get_or xs k d)
    at [] k d lt = absurd (omega arith)
    at (y ∷ xs) zero d lt = inl refl
    at (y ∷ xs) (suc k) d lt = inr (at xs k d (omega arith))

pub take-next : {X : Type 0} (xs : List X) (i : ℕ) (x : X) → slice_get xs i ≡ Some x →
    take (i + 1) xs ≡ take i xs ++ x ∷ []
take-next [] i x h = absurd (let e = h in cc)
take-next (y ∷ xs) zero x h = let e : y ≡ x = cc in ap (λ (z : _). z ∷ []) e
take-next (y ∷ xs) (suc i) x h = let e : suc i + 1 ≡ suc (i + 1) = omega arith in ap (λ (k : ℕ). take k (y ∷ xs)) e
    ∙ ap (λ (t : List _). y ∷ t) (take-next xs i x h)

-- ---- a list of different elements is no longer than one that has them all

without : {X : Type 0} (ys : List X) (x : X) → Among ys x → List X
without [] x h = []
without (y ∷ ys) x (inl e) = ys
without (y ∷ ys) x (inr h) = y ∷ without ys x h

length-without : {X : Type 0} (ys : List X) (x : X) (h : Among ys x) → length ys ≡ suc (length (without ys x h))
unfolding without
length-without [] x h = absurd h
length-without (y ∷ ys) x (inl e) = refl
length-without (y ∷ ys) x (inr h) = ap suc (length-without ys x h)

Among-without : {X : Type 0} (ys : List X) (x : X) (h : Among ys x) (z : X) → Among ys z →
    (x ≡ z) ⊎ Among (without ys x h) z
unfolding without
Among-without [] x h z k = absurd h
Among-without (y ∷ ys) x (inl e) z (inl f) = inl (sym e ∙ f)
Among-without (y ∷ ys) x (inl e) z (inr k) = inr k
Among-without (y ∷ ys) x (inr h) z (inl f) = inr (inl f)
Among-without (y ∷ ys) x (inr h) z (inr k) = elim (Among-without ys x h z k) [ inl e ↦ inl e | inr l ↦ inr (inr l) ]

pub no_longer : {X : Type 0} (xs ys : List X) → Apart xs → ((x : X) → Among xs x → Among ys x) → length xs ≤ length ys
no_longer [] ys apart into = omega arith
no_longer (x ∷ xs) ys apart into =
    let here : Among ys x = into x (inl refl) in
    let shorter = length-without ys x here in
    let rest = no_longer xs (without ys x here) apart.1 (λ z k. elim (Among-without ys x here z (into z (inr k))) [
      | inl e ↦ absurd (apart.0 (subst (Among xs) (sym e) k))
      | inr l ↦ l
    ]) in
    omega arith
