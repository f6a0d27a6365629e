-- Lists by places.
use Rattle.std.proofs.Common.{◌≡◌, ℕ, zero, suc, ◌<◌, List, [], ◌∷◌, ◌++◌, map, length, refl, ap}
use Rattle.std.proofs.Common.{arith, Some, inl, inr, get_or}
use Rattle.std.specs.Prelude.{◌⊎◌, slice_get, slice_index, All}

pub get_front : {X : Type 0} (xs ys : List X) (k : ℕ) (x : X) → slice_get xs k ≡ Some x → slice_get (xs ++ ys) k ≡
    Some x
get_front [] ys k x at = absurd (cc)
get_front (z ∷ xs) ys zero x at = at
get_front (z ∷ xs) ys (suc k) x at = get_front xs ys k x at

pub get_end : {X : Type 0} (xs : List X) (x : X) → slice_get (xs ++ x ∷ []) (length xs) ≡ Some x
get_end [] x = refl
get_end (z ∷ xs) x = get_end xs x

-- what a list with one more item has at a place
pub get_more : {X : Type 0} (xs : List X) (y : X) (k : ℕ) (x : X) → slice_get (xs ++ y ∷ []) k ≡ Some x →
    (slice_get xs k ≡ Some x) ⊎ ((k ≡ length xs) × (y ≡ x))
get_more [] y zero x at = inr (refl, cc)
get_more [] y (suc k) x at = absurd (cc)
get_more (z ∷ xs) y zero x at = inl at
get_more (z ∷ xs) y (suc k) x at = elim (get_more xs y k x at) [
  | inl before ↦ inl before
  | inr last ↦ inr (ap suc last.0, last.1)
]

pub get_within : {X : Type 0} (xs : List X) (k : ℕ) (x : X) → slice_get xs k ≡ Some x → k < length xs
get_within [] k x at = absurd (cc)
get_within (y ∷ xs) zero x at = omega arith
get_within (y ∷ xs) (suc k) x at = let rest = get_within xs k x at in omega arith

pub get_here : {X : Type 0} (xs : List X) (k : ℕ) → k < length xs → (x : X) × (slice_get xs k ≡ Some x)
get_here [] k lt = absurd (omega arith)
get_here (x ∷ xs) zero lt = (x, refl)
get_here (x ∷ xs) (suc k) lt = get_here xs k (omega arith)

pub index_mapped : {X : Type 0} (f : X → ℕ) (xs : List X) (k : ℕ) (x : X) → slice_get xs k ≡ Some x →
    slice_index (map f xs) k ≡ f x
index_mapped f [] k x at = absurd (cc)
index_mapped f (y ∷ xs) zero x at = let same : y ≡ x = cc in ap f same
index_mapped f (y ∷ xs) (suc k) x at = index_mapped f xs k x at

pub index_map : (f : ℕ → ℕ) (xs : List ℕ) (k : ℕ) → k < length xs → slice_index (map f xs) k ≡ f (slice_index xs k)
index_map f [] k lt = absurd (omega arith)
index_map f (x ∷ xs) zero lt = refl
index_map f (x ∷ xs) (suc k) lt = index_map f xs k (omega arith)

pub index_front : (xs ys : List ℕ) (k : ℕ) → k < length xs → slice_index (xs ++ ys) k ≡ slice_index xs k
index_front [] ys k lt = absurd (omega arith)
index_front (x ∷ xs) ys zero lt = refl
index_front (x ∷ xs) ys (suc k) lt = index_front xs ys k (omega arith)

pub index_end : (xs : List ℕ) (y : ℕ) → slice_index (xs ++ y ∷ []) (length xs) ≡ y
index_end [] y = refl
index_end (x ∷ xs) y = index_end xs y

pub all_at : (P : ℕ → Type 0) (xs : List ℕ) (k : ℕ) → k < length xs → All P xs → P (slice_index xs k)
all_at P xs k lt all = all k 0 lt

pub all_weaker : (P Q : ℕ → Type 0) (xs : List ℕ) → ((x : ℕ) → P x → Q x) → All P xs → All Q xs
all_weaker P Q xs weaker all k d lt = weaker (get_or xs k d) (all k d lt)

pub all_push : (P : ℕ → Type 0) (xs : List ℕ) (y : ℕ) → All P xs → P y → All P (xs ++ y ∷ [])
all_push P [] y all is zero d lt = is
all_push P [] y all is (suc k) d lt = absurd (omega arith)
all_push P (x ∷ xs) y all is zero d lt = all 0 d (omega arith)
all_push P (x ∷ xs) y all is (suc k) d lt = all_push P xs y (λ j e below. all (suc j) e (omega arith)) is k d (omega
    arith)
