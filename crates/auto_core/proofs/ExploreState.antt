-- The edges of one state, taken one after the other.
use Rattle.std.proofs.Common.{◌≡◌, ℕ, zero, suc, ◌+◌, ◌<◌, Bool, List, [], ◌∷◌, ◌++◌, length, take, slice_get, Some}
use Rattle.std.proofs.Common.{inl, inr, refl, sym, ap, ◌∙◌, subst, arith, append_assoc}
use Rattle.std.specs.Bool.{Decides}
use Rattle.std.specs.Option.{option_map}
use Rattle.std.specs.List.{position_or_len}
use Rattle.std.proofs.lemmas.List.{take-append-le, take_all, length-map, length-take-le}
use Rattle.std.proofs.lemmas.List.Elements.{All-push, All-nil}
use Rattle.std.proofs.lemmas.Option.{slice_get-map, slice_get_within}
use Rattle.indexmap.specs.IndexSet.{insert_key}
use Rattle.auto_core.specs.declared.labels.Literal.{Literal}
use Rattle.auto_core.specs.declared.tables.Edge.{Edge}
use Rattle.auto_core.specs.Machine.{Machine}
use Rattle.auto_core.specs.Graph.{Reached}
use Rattle.auto_core.specs.inner.Order.{Step, same_edge, steps_from, steps_of}
use Rattle.auto_core.specs.inner.Exploring.{IsExplored, TakesEdge, AddsEdgesOf}
use Rattle.auto_core.proofs.SameLabel.{same_edge-Decides}
use Rattle.auto_core.proofs.Members.{Among}
use Rattle.auto_core.proofs.Once.{append-nil, Among-slice_get, Among-left, insert_key-there, insert_key-new}
use Rattle.auto_core.proofs.Once.{among_or_not}
use Rattle.auto_core.proofs.Steps.{steps_from-push, take-next, All-among, step_taken}

-- the edges of the state before the place have been taken, after those of the states before it
pub record IsInState {S : Type 0} (eq : S → S → Bool) (own : S → Type 0) (m : Machine S) (limit : ℕ)
    (names0 : List S) (edges0 : List Edge) (state : S) (from place : ℕ) (names : List S) (edges : List Edge) : Type
    0 where
  pub explored : IsExplored eq own m limit (steps_from m 0 (take from names0) ++ take place (steps_of m from state))
      names edges
  pub grows : (more : List S) × (names ≡ names0 ++ more)
  pub adds : AddsEdgesOf from edges0 edges

slice_get-left : {X : Type 0} (xs ys : List X) (i : ℕ) (x : X) → slice_get xs i ≡ Some x →
    slice_get (xs ++ ys) i ≡ Some x
slice_get-left [] ys i x h = absurd (let e = h in cc)
slice_get-left (y ∷ xs) ys zero x h = h
slice_get-left (y ∷ xs) ys (suc i) x h = slice_get-left xs ys i x h

module _ {S : Type 0} (eq : S → S → Bool) (decides : (x y : S) → Decides (eq x y) (x ≡ y)) (own : S → Type 0)
    (m : Machine S) (limit : ℕ) (names0 : List S) (edges0 : List Edge) (state : S) (from : ℕ) where
  pub state_begun : IsExplored eq own m limit (steps_from m 0 (take from names0)) names0 edges0 →
      IsInState eq own m limit names0 edges0 state from 0 names0 edges0
  state_begun seen = record {
    explored = subst (λ (steps : List (Step S)). IsExplored eq own m limit steps names0 edges0)
        (sym (append-nil (steps_from m 0 (take from names0)))) seen;
    grows = ([], sym (append-nil names0));
    adds = ([], sym (append-nil edges0), All-nil (λ e. e.from ≡ from));
  }

  pub state_reached : (place : ℕ) (names : List S) (edges : List Edge) → slice_get names0 from ≡ Some state →
      IsInState eq own m limit names0 edges0 state from place names edges → Reached m state
  state_reached place names edges named inside =
      let (more, same) = inside.grows in
      All-among (Reached m) names state inside.explored.reached
      (subst (λ (s : List S). Among s state) (sym same)
      (Among-left names0 more state (Among-slice_get names0 from state named)))

  pub state_taken : (place : ℕ) (names : List S) (edges : List Edge) (names' : List S) (edges' : List Edge) →
      slice_get names0 from ≡ Some state
      → IsInState eq own m limit names0 edges0 state from place names edges →
      TakesEdge eq own m limit state from place names edges names' edges'
      → IsInState eq own m limit names0 edges0 state from (place + 1) names' edges'
  state_taken place names edges names' edges' named inside taken =
      let step : Step S = record { from = from; label = taken.label; to = taken.next } in
      let at : slice_get (steps_of m from state) place ≡ Some
      (record { from = from; label = taken.label; to = taken.next }) =
      slice_get-map (λ (e : List Literal × S). record { from = from; label = e.0; to = e.1 }) (m.edges state) place
      ∙ ap (option_map (λ (e : List Literal × S). record { from = from; label = e.0; to = e.1 })) taken.there in
      record {
        explored = subst (λ (steps : List (Step S)). IsExplored eq own m limit steps names' edges')
            (append_assoc (steps_from m 0 (take from names0)) (take place (steps_of m from state)) (step ∷ [])
            ∙ ap (λ (s : List (Step S)). steps_from m 0 (take from names0) ++ s)
            (sym (take-next (steps_of m from state) place step at)))
            (step_taken eq decides own m limit _ names edges state from place names' edges' inside.explored
            (state_reached place names edges named inside) taken);
        grows = elim (among_or_not eq decides names taken.next) [
          | inl h ↦ (inside.grows.0, taken.named ∙ insert_key-there eq decides names taken.next h ∙ inside.grows.1)
          | inr out ↦ (
            inside.grows.0 ++ taken.next ∷ [],
            taken.named ∙ insert_key-new eq decides names taken.next out
                ∙ ap (λ (s : List S). s ++ taken.next ∷ []) inside.grows.1 ∙ append_assoc names0 inside.grows.0
                (taken.next ∷ []),
          )
        ];
        adds = added (record { from = from; label = taken.label; to = position_or_len (eq taken.next) names }) refl
            taken.added;
      }
    where
      added : (edge : Edge) → edge.from ≡ from → edges' ≡ insert_key same_edge edges edge →
          AddsEdgesOf from edges0 edges'
      added edge leaves same = elim (among_or_not same_edge same_edge-Decides edges edge) [
        | inl h ↦ (
          inside.adds.0,
          same ∙ insert_key-there same_edge same_edge-Decides edges edge h ∙ inside.adds.1,
          inside.adds.2,
        )
        | inr out ↦ (
          inside.adds.0 ++ edge ∷ [],
          same ∙ insert_key-new same_edge same_edge-Decides edges edge out
              ∙ ap (λ (s : List Edge). s ++ edge ∷ []) inside.adds.1 ∙ append_assoc edges0 inside.adds.0 (edge ∷ []),
          All-push (λ e. e.from ≡ from) inside.adds.0 edge inside.adds.2 leaves,
        )
      ]

  pub state_done : (names : List S) (edges : List Edge) (place : ℕ) → place ≡ length (m.edges state) →
      slice_get names0 from ≡ Some state
      → IsInState eq own m limit names0 edges0 state from place names edges
      → IsExplored eq own m limit (steps_from m 0 (take (from + 1) names)) names edges
  state_done names edges place all named inside =
      let (more, same) = inside.grows in
      let within : from < length names0 = slice_get_within names0 from state named in
      let count : length (steps_of m from state) ≡ length (m.edges state) = length-map (m.edges state)
      (λ (e : List Literal × S). record { from = from; label = e.0; to = e.1 }) in
      let whole : take place (steps_of m from state) ≡ steps_of m from state = take_all place
      (steps_of m from state) (omega arith) in
      let front : take (from + 1) names ≡ take from names0 ++ state ∷ [] =
      ap (take (from + 1)) same ∙ take-next (names0 ++ more) from state (slice_get-left names0 more from state named)
      ∙ ap (λ (s : List S). s ++ state ∷ []) (take-append-le from names0 more (omega arith)) in
      let long : length (take from names0) ≡ from = length-take-le from names0 (omega arith) in
      subst (λ (steps : List (Step S)). IsExplored eq own m limit steps names edges)
      (ap (λ (s : List (Step S)). steps_from m 0 (take from names0) ++ s) whole
      ∙ ap (λ (k : ℕ). steps_from m 0 (take from names0) ++ steps_of m k state)
      (let e : from ≡ 0 + length (take from names0) = omega arith in e)
      ∙ sym (steps_from-push m 0 (take from names0) state)
      ∙ ap (steps_from m 0) (sym front))
      inside.explored
