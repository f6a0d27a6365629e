-- The elements that pass a test, counted and found by their places in the whole list.
use Rattle.std.proofs.Common.{◌≡◌, ℕ, zero, suc, ◌+◌, Bool, true, false, cond, Some, List, [], ◌∷◌, filter, length}
use Rattle.std.proofs.Common.{slice_get, take, sym, ap, ◌∙◌}
use Rattle.std.proofs.lemmas.List.Filters.{length-filter_more}
use Rattle.std.proofs.lemmas.Option.{slice_get_within, get_or_from_slice_get}

-- one more element of the list, which passes or doesn't
pub counted_more : {X : Type 0} (p : X → Bool) (xs : List X) (i : ℕ) (x : X) (b : Bool) (before after : ℕ) →
    slice_get xs i ≡ Some x → p x ≡ b → before ≡ length (filter p (take i xs)) → after ≡ before + cond b 1 0 →
    after ≡ length (filter p (take (i + 1) xs))
counted_more p xs i x b before after e t h k =
    k ∙ ap (λ n. n + cond b 1 0) h ∙ ap (λ c. length (filter p (take i xs)) + cond c 1 0) (sym t)
    ∙ ap (λ y. length (filter p (take i xs)) + cond (p y) 1 0) (sym (get_or_from_slice_get xs i x x e))
    ∙ sym (length-filter_more p xs i x (slice_get_within xs i x e))

past : {X : Type 0} (b : Bool) (y x : X) (found passed : List X) → slice_get found (length passed) ≡ Some x →
    slice_get (cond b (y ∷ found) found) (length (cond b (y ∷ passed) passed)) ≡ Some x
past true y x found passed h = h
past false y x found passed h = h

-- an element that passes is found at the number of those before it
pub filtered_at : {X : Type 0} (p : X → Bool) (xs : List X) (i : ℕ) (x : X) → slice_get xs i ≡ Some x → p x ≡ true →
    slice_get (filter p xs) (length (filter p (take i xs))) ≡ Some x
filtered_at p [] i x e t = absurd (cc)
filtered_at p (y ∷ ys) zero x e t =
    let same : y ≡ x = cc in
    ap (λ b. slice_get (cond b (y ∷ filter p ys) (filter p ys)) 0) (ap p same ∙ t) ∙ ap (λ z. Some z) same
filtered_at p (y ∷ ys) (suc i) x e t = past (p y) y x (filter p ys) (filter p (take i ys)) (filtered_at p ys i x e t)
