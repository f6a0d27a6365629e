-- Which edge stands at a place of the lists of edges that the machines are made of.
use Rattle.std.proofs.Common.{◌≡◌, ℕ, zero, suc, ◌+◌, ◌*◌, ◌/◌, ◌%◌, ◌<◌, Some, List, [], ◌∷◌, ◌++◌, map, length}
use Rattle.std.proofs.Common.{slice_get, refl, sym, ap, ◌∙◌, subst, arith}
use Rattle.std.proofs.lemmas.List.{length-map}
use Rattle.std.proofs.Common.{length-append}
use Rattle.std.proofs.Math.Nat.{div-lt_iff_lt-mul}
use Rattle.auto_core.specs.declared.labels.Literal.{Literal}
use Rattle.auto_core.specs.Edges.{joined_edge, products}

pub get-map : {X Y : Type 0} (f : X → Y) (xs : List X) (k : ℕ) (x : X) → slice_get xs k ≡ Some x →
    slice_get (map f xs) k ≡ Some (f x)
get-map f [] k x e = absurd (cc)
get-map f (y ∷ ys) zero x e = let same : y ≡ x = cc in ap (λ z. Some (f z)) same
get-map f (y ∷ ys) (suc k) x e = get-map f ys k x e

pub get-append_left : {X : Type 0} (xs ys : List X) (k : ℕ) (x : X) → slice_get xs k ≡ Some x →
    slice_get (xs ++ ys) k ≡ Some x
get-append_left [] ys k x e = absurd (cc)
get-append_left (z ∷ zs) ys zero x e = e
get-append_left (z ∷ zs) ys (suc k) x e = get-append_left zs ys k x e

-- the place k is j further than the first list
pub get-append_right : {X : Type 0} (xs ys : List X) (j k : ℕ) (x : X) → k ≡ length xs + j →
    slice_get ys j ≡ Some x → slice_get (xs ++ ys) k ≡ Some x
get-append_right [] ys j k x e h = subst (λ i. slice_get ys i ≡ Some x) (let s : j ≡ k = omega arith in s) h
get-append_right (z ∷ zs) ys j zero x e h = absurd (omega arith)
get-append_right (z ∷ zs) ys j (suc k) x e h = get-append_right zs ys j k x (omega arith) h

pub length-products : {S T U : Type 0} (f : S → T → U) (xs : List (List Literal × S))
    (ys : List (List Literal × T)) → length (products f xs ys) ≡ length xs * length ys
length-products f [] ys = omega arith
length-products f (x ∷ xs) ys =
    let rest : length (products f xs ys) ≡ length xs * length ys = length-products f xs ys in
    let front : length (map (λ y. joined_edge f x y) ys) ≡ length ys = length-map ys (λ y. joined_edge f x y) in
    omega (arith, length-append (map (λ y. joined_edge f x y) ys) (products f xs ys))

pub get-products : {S T U : Type 0} (f : S → T → U) (xs : List (List Literal × S)) (ys : List (List Literal × T))
    (i j k : ℕ) (x : List Literal × S) (y : List Literal × T) → k ≡ i * length ys + j → slice_get xs i ≡ Some x →
    slice_get ys j ≡ Some y → slice_get (products f xs ys) k ≡ Some (joined_edge f x y)
get-products f [] ys i j k x y e h l = absurd (cc)
get-products f (z ∷ zs) ys zero j k x y e h l =
    let same : z ≡ x = cc in
    let here : slice_get (map (λ y. joined_edge f z y) ys) j ≡ Some (joined_edge f z y) =
    get-map (λ y. joined_edge f z y) ys j y l in
    let place : j ≡ k = omega arith in
    let there : slice_get (map (λ y. joined_edge f z y) ys) j ≡ Some (joined_edge f x y) = here
    ∙ ap (λ w. Some (joined_edge f w y)) same in
    get-append_left (map (λ y. joined_edge f z y) ys) (products f zs ys) k (joined_edge f x y)
    (subst (λ n. slice_get (map (λ y. joined_edge f z y) ys) n ≡ Some (joined_edge f x y)) place there)
get-products f (z ∷ zs) ys (suc i) j k x y e h l =
    get-append_right (map (λ y. joined_edge f z y) ys) (products f zs ys) (i * length ys + j) k (joined_edge f x y)
    (omega (arith, length-map ys (λ y. joined_edge f z y)))
    (get-products f zs ys i j (i * length ys + j) x y refl h l)

some_right : (m n k : ℕ) → k < m * n → 0 < n
some_right m zero k h = absurd (omega arith)
some_right m (suc n) k h = omega arith

-- a place of the products is a row and a column
pub place_within : {S T U : Type 0} (f : S → T → U) (xs : List (List Literal × S)) (ys : List (List Literal × T))
    (k n : ℕ) → n ≡ length ys → k < length (products f xs ys) → (0 < n) × (k / n < length xs) × (k % n < length ys)
place_within f xs ys k n e h =
    let whole : k < length xs * n = subst (λ i. k < i) (length-products f xs ys ∙ ap (λ i. length xs * i) (sym e)) h in
    let some : 0 < n = some_right (length xs) n k whole in
    (some, (div-lt_iff_lt-mul some).1 whole, omega (arith, some))

-- a place is the quotient's row and the remainder's column
pub place_split : (k n : ℕ) → 0 < n → k ≡ k / n * n + k % n
place_split k n h = omega arith

pub count_products : {S T U : Type 0} (f : S → T → U) (xs : List (List Literal × S)) (ys : List (List Literal × T))
    (m n : ℕ) → m ≡ length xs → n ≡ length ys → m * n ≡ length (products f xs ys)
count_products f xs ys m n e h = ap (λ i. i * n) e ∙ ap (λ j. length xs * j) h ∙ sym (length-products f xs ys)
