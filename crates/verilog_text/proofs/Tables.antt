-- Places of a table that begins with two entries and goes on with three lists, and lists by place.
use Rattle.std.proofs.Common.{◌≡◌, ℕ, zero, suc, ◌+◌, ◌<◌, List, [], ◌∷◌, ◌++◌, map, length}
use Rattle.std.proofs.Common.{refl, ap, ◌∙◌, arith, Some}
use Rattle.std.proofs.lemmas.List.{length-append, get_or_append_left, get_or-append-add}
use Rattle.std.specs.Prelude.{slice_get, slice_index, All, IfSome}
use Rattle.psl_model.specs.Moved.{Carries}

pub first_list : (a b : ℕ) (xs ys zs : List ℕ) → Carries 2 (length xs) xs (a ∷ b ∷ xs ++ ys ++ zs)
first_list a b xs ys zs s lt =
    let e : 2 + s ≡ suc (suc s) = omega arith in
    ap (slice_index (a ∷ b ∷ xs ++ ys ++ zs)) e
    ∙ get_or_append_left (xs ++ ys) zs 0 s (omega (arith, length-append xs ys))
    ∙ get_or_append_left xs ys 0 s lt

pub second_list : (a b : ℕ) (xs ys zs : List ℕ) (n r : ℕ) → length xs ≡ n → r < length ys →
    slice_index (a ∷ b ∷ xs ++ ys ++ zs) (2 + n + r) ≡ slice_index ys r
second_list a b xs ys zs n r same lt =
    let e : 2 + n + r ≡ length (a ∷ b ∷ xs) + r = omega (arith, same) in
    get_or_append_left (a ∷ b ∷ xs ++ ys) zs 0 (2 + n + r) (omega (arith, length-append xs ys, same))
    ∙ ap (slice_index (a ∷ b ∷ xs ++ ys)) e
    ∙ get_or-append-add (a ∷ b ∷ xs) ys r 0

pub third_list : (a b : ℕ) (xs ys zs : List ℕ) (n m k : ℕ) → length xs ≡ n → length ys ≡ m →
    slice_index (a ∷ b ∷ xs ++ ys ++ zs) (2 + n + m + k) ≡ slice_index zs k
third_list a b xs ys zs n m k first second =
    let e : 2 + n + m + k ≡ length (a ∷ b ∷ xs ++ ys) + k = omega (arith, length-append xs ys, first, second) in
    ap (slice_index (a ∷ b ∷ xs ++ ys ++ zs)) e
    ∙ get_or-append-add (a ∷ b ∷ xs ++ ys) zs k 0

-- what each item meets, by its place
abbrev pub Each : {X : Type 0} → List X → (X → Type 0) → Type 0
Each {X} xs P = (k : ℕ) (x : X) → slice_get xs k ≡ Some x → P x

pub get_within : {X : Type 0} (xs : List X) (k : ℕ) → k < length xs → (x : X) × (slice_get xs k ≡ Some x)
get_within [] k lt = absurd (omega arith)
get_within (x ∷ xs) zero lt = (x, refl)
get_within (x ∷ xs) (suc k) lt = get_within xs k (omega arith)

pub get_mapped : {X Y : Type 0} (f : X → Y) (xs : List X) (k : ℕ) (x : X) → slice_get xs k ≡ Some x →
    slice_get (map f xs) k ≡ Some (f x)
get_mapped f [] k x at = absurd (cc)
get_mapped f (y ∷ xs) zero x at = let same : y ≡ x = cc in ap (λ z. Some (f z)) same
get_mapped f (y ∷ xs) (suc k) x at = get_mapped f xs k x at

pub index_mapped : {X : Type 0} (f : X → ℕ) (xs : List X) (k : ℕ) (x : X) → slice_get xs k ≡ Some x →
    slice_index (map f xs) k ≡ f x
index_mapped f [] k x at = absurd (cc)
index_mapped f (y ∷ xs) zero x at = let same : y ≡ x = cc in ap f same
index_mapped f (y ∷ xs) (suc k) x at = index_mapped f xs k x at

-- a bound of each value is one of each look-up
pub mapped_below : {X : Type 0} (f : X → ℕ) (xs : List X) (bound k : ℕ) → 0 < bound →
    Each xs (λ x. f x < bound) → slice_index (map f xs) k < bound
mapped_below f [] bound k positive small = positive
mapped_below f (y ∷ xs) bound zero positive small = small 0 y refl
mapped_below f (y ∷ xs) bound (suc k) positive small =
    mapped_below f xs bound k positive (λ j x at. small (suc j) x at)

pub all_below : (xs : List ℕ) (bound k : ℕ) → 0 < bound → All (λ x. x < bound) xs → slice_index xs k < bound
all_below [] bound k positive small = positive
all_below (x ∷ xs) bound zero positive small = small 0 0 (omega arith)
all_below (x ∷ xs) bound (suc k) positive small =
    all_below xs bound k positive (λ j d lt. small (suc j) d (omega arith))

pub some_mapped : {X Y : Type 0} (f : X → Y) (xs : List X) (k : ℕ) (P : Y → Type 0) →
    ((x : X) → slice_get xs k ≡ Some x → P (f x)) → IfSome (slice_get (map f xs) k) P
some_mapped f [] k P each = tt
some_mapped f (x ∷ xs) zero P each = each x refl
some_mapped f (x ∷ xs) (suc k) P each = some_mapped f xs k P each

pub all_mapped : {X Y : Type 0} (f : X → Y) (xs : List X) (P : Y → Type 0) → Each xs (λ x. P (f x)) →
    All P (map f xs)
all_mapped f [] P each k d lt = absurd (omega arith)
all_mapped f (x ∷ xs) P each zero d lt = each 0 x refl
all_mapped f (x ∷ xs) P each (suc k) d lt = all_mapped f xs P (λ j y at. each (suc j) y at) k d (omega arith)

pub all_each : {X : Type 0} (xs : List X) (P : X → Type 0) → Each xs P → All P xs
all_each [] P each k d lt = absurd (omega arith)
all_each (x ∷ xs) P each zero d lt = each 0 x refl
all_each (x ∷ xs) P each (suc k) d lt = all_each xs P (λ j y at. each (suc j) y at) k d (omega arith)

pub map_twice : {X Y Z : Type 0} (f : X → Y) (g : Y → Z) (xs : List X) → map g (map f xs) ≡ map (λ x. g (f x)) xs
map_twice f g [] = refl
map_twice f g (x ∷ xs) = ap (λ zs. g (f x) ∷ zs) (map_twice f g xs)
