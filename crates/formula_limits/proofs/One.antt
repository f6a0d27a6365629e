-- A formula has one first sequence with too many places, and one number of steps.
use Rattle.std.specs.Prelude.{ℕ, zero, suc, ◌≡◌, ◌<◌, ◌≤◌, ◌+◌, List, [], ◌∷◌, ◌++◌, All, length}
use Rattle.std.proofs.Common.{refl, sym, ap, ◌∙◌, subst, arith}
use Rattle.std.proofs.lemmas.List.Elements.{All-head, All-tail}
use Rattle.psl_model.specs.Sere.{Sere}
use Rattle.psl_rewrite.specs.Base.{Base, bool, and, or_bool, implies, always, next, next_all, next_some, until, event}
use Rattle.psl_rewrite.specs.Base.{event_some, seq, eventually, suffix, abort}
use Rattle.psl_rewrite.specs.Conditions.{base_sequences}
use Rattle.sequence_cores.specs.Places.{places_of, place_limit, told}
use Rattle.formula_limits.specs.Places.{IsSmall, AreSmall, HasTooManyPlaces, told_number}
use Rattle.formula_limits.specs.Steps.{SequenceHasSteps, HasSteps}

abbrev first_of : List Sere → Sere → Sere
first_of [] r = r
first_of (s ∷ ss) r = s

abbrev rest_of : List Sere → List Sere
rest_of [] = []
rest_of (s ∷ ss) = ss

not_small : (r : Sere) → IsSmall r → place_limit < places_of r → ⊥
not_small r small above = absurd (omega arith)

pub none_large : (before later : List Sere) (large : Sere) → All IsSmall (before ++ large ∷ later) →
    place_limit < places_of large → ⊥
none_large [] later large small above = not_small large (All-head IsSmall large later small) above
none_large (r ∷ rs) later large small above =
    none_large rs later large (All-tail IsSmall r (rs ++ large ∷ later) small) above

-- two fronts of a list that end before its first large sequence
pub one_place : (xs fs us bs : List Sere) (l : Sere) → (vs : List Sere) (m : Sere) → xs ≡ fs ++ l ∷ us →
    xs ≡ bs ++ m ∷ vs → All IsSmall fs → All IsSmall bs → place_limit < places_of l → place_limit < places_of m →
    (length fs ≡ length bs) × (l ≡ m)
one_place xs [] us [] l vs m p q fs_small bs_small l_large m_large =
    (refl, ap (λ (ys : List Sere). first_of ys l) (sym p ∙ q))
one_place xs [] us (b ∷ bs) l vs m p q fs_small bs_small l_large m_large =
    let same : l ≡ b = ap (λ (ys : List Sere). first_of ys l) (sym p ∙ q) in
    absurd (not_small l (subst IsSmall (sym same) (All-head IsSmall b bs bs_small)) l_large)
one_place xs (a ∷ fs) us [] l vs m p q fs_small bs_small l_large m_large =
    let same : m ≡ a = ap (λ (ys : List Sere). first_of ys m) (sym q ∙ p) in
    absurd (not_small m (subst IsSmall (sym same) (All-head IsSmall a fs fs_small)) m_large)
one_place xs (a ∷ fs) us (b ∷ bs) l vs m p q fs_small bs_small l_large m_large =
    let h = one_place (fs ++ l ∷ us) fs us bs l vs m refl (ap rest_of (sym p ∙ q)) (All-tail IsSmall a fs fs_small)
    (All-tail IsSmall b bs bs_small) l_large m_large in
    (ap (λ (n : ℕ). suc n) h.0, h.1)

pub one_large : (f : Base) (m n p q : ℕ) → HasTooManyPlaces f m p → HasTooManyPlaces f n q → (m ≡ n) × (p ≡ q)
one_large f m n p q h k =
    let same = one_place (base_sequences f) h.before h.later k.before h.large k.later k.large h.sequences k.sequences
    h.small k.small h.above k.above in (
      h.is_number ∙ ap (λ (x : ℕ). told_number (suc x)) same.0 ∙ sym k.is_number,
      h.is_places ∙ ap (λ (r : Sere). told (places_of r)) same.1 ∙ sym k.is_places,
    )

pub small_is_not_large : (f : Base) (n p : ℕ) → AreSmall f → HasTooManyPlaces f n p → ⊥
small_is_not_large f n p small h =
    none_large h.before h.later h.large (subst (All IsSmall) h.sequences small) h.above

same_sum : (a b c d k l : ℕ) → a ≡ c → b ≡ d → k ≡ a + b → l ≡ c + d → k ≡ l
same_sum a b c d k l p q r s = omega arith

module _ (one : (r : Sere) (k l : ℕ) → SequenceHasSteps r k → SequenceHasSteps r l → k ≡ l) where
  pub one_number : (f : Base) (k l : ℕ) → HasSteps f k → HasSteps f l → k ≡ l
  one_number (bool e) k l p q = p ∙ sym q
  one_number (and f g) k l p q =
      same_sum p.0 p.1 q.0 q.1 k l (one_number f p.0 q.0 p.2 q.2) (one_number g p.1 q.1 p.3 q.3) p.4 q.4
  one_number (or_bool e f) k l p q = one_number f k l p q
  one_number (implies e f) k l p q = one_number f k l p q
  one_number (always f) k l p q = one_number f k l p q
  one_number (next s c f) k l p q = one_number f k l p q
  one_number (next_all s low high f) k l p q = one_number f k l p q
  one_number (next_some s low high e) k l p q = p ∙ sym q
  one_number (until s f e) k l p q = one_number f k l p q
  one_number (event s on low high f) k l p q = one_number f k l p q
  one_number (event_some s on low high e) k l p q = p ∙ sym q
  one_number (seq r s) k l p q = p ∙ sym q
  one_number (eventually r) k l p q = one r k l p q
  one_number (suffix r f) k l p q =
      same_sum p.0 p.1 q.0 q.1 k l (one r p.0 q.0 p.2 q.2) (one_number f p.1 q.1 p.3 q.3) p.4 q.4
  one_number (abort f on) k l p q = one_number f k l p q
