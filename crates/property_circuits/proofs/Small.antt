-- The sequences of a formula's parts are small where all of them are.
use Rattle.std.specs.Prelude.{ℕ, ◌≡◌, List, [], ◌∷◌, ◌++◌, All}
use Rattle.std.proofs.Common.{subst}
use Rattle.std.proofs.lemmas.List.Elements.{All-nil, All-cons, All-head, All-tail}
use Rattle.psl_model.specs.Sere.{Sere}
use Rattle.psl_rewrite.specs.Base.{Base, and, suffix}
use Rattle.psl_rewrite.specs.Conditions.{base_sequences}
use Rattle.formula_limits.specs.Places.{IsSmall, AreSmall, HasTooManyPlaces}

all_left : (P : Sere → Type 0) (xs ys : List Sere) → All P (xs ++ ys) → All P xs
all_left P [] ys all = All-nil P
all_left P (x ∷ xs) ys all =
    All-cons P x xs (All-head P x (xs ++ ys) all) (all_left P xs ys (All-tail P x (xs ++ ys) all))

all_right : (P : Sere → Type 0) (xs ys : List Sere) → All P (xs ++ ys) → All P ys
all_right P [] ys all = all
all_right P (x ∷ xs) ys all = all_right P xs ys (All-tail P x (xs ++ ys) all)

pub small_left : (f g : Base) → AreSmall (and f g) → AreSmall f
small_left f g small = all_left IsSmall (base_sequences f) (base_sequences g) small

pub small_right : (f g : Base) → AreSmall (and f g) → AreSmall g
small_right f g small = all_right IsSmall (base_sequences f) (base_sequences g) small

pub small_sequence : (r : Sere) (f : Base) → AreSmall (suffix r f) → IsSmall r
small_sequence r f small = All-head IsSmall r (base_sequences f) small

pub small_behind : (r : Sere) (f : Base) → AreSmall (suffix r f) → AreSmall f
small_behind r f small = All-tail IsSmall r (base_sequences f) small

-- the same first sequence with too many places, as it is told
pub large_same : (f : Base) (m n p q : ℕ) → m ≡ n → p ≡ q → HasTooManyPlaces f m p → HasTooManyPlaces f n q
large_same f m n p q number places large =
    subst (λ (k : ℕ). HasTooManyPlaces f k q) number (subst (λ (k : ℕ). HasTooManyPlaces f m k) places large)
