-- A graph of an automaton is the part of it that its start reaches.
use Rattle.std.proofs.Common.{◌≡◌, ℕ, zero, suc, ◌+◌, Bool, List, [], ◌∷◌, map, slice_get, Some}
use Rattle.std.proofs.Common.{inl, inr, refl, sym, ap, ◌∙◌, subst, arith}
use Rattle.std.specs.Bool.{Decides}
use Rattle.std.specs.List.{position_or_len}
use Rattle.std.proofs.lemmas.Option.{same_Some}
use Rattle.std.proofs.lemmas.List.Elements.{All-contains}
use Rattle.auto_core.specs.declared.tables.Edge.{Edge}
use Rattle.auto_core.specs.Machine.{Machine}
use Rattle.auto_core.specs.Graph.{Graph, Reached, at_start, by_edge, IsReachedPart, IsStepOf}
use Rattle.auto_core.specs.inner.Order.{Step, IsGraphOf, same_edge, numbered, steps_from}
use Rattle.auto_core.proofs.Members.{Among, Contains-from_Among, Among-from_Contains}
use Rattle.auto_core.proofs.SameLabel.{same_edge-Decides}
use Rattle.auto_core.proofs.Once.{Apart, AllPairs-from_Apart, Apart-from_AllPairs, Apart-once, Among-slice_get}
use Rattle.auto_core.proofs.Once.{slice_get-Among, Among-once, once-Among, position-Among}
use Rattle.auto_core.proofs.Steps.{Among-map, map-Among}
use Rattle.auto_core.proofs.Reaching.{steps-there, steps-from}

-- an element stands in a list without equal ones at one place only
pub one_place : {X : Type 0} (xs : List X) (i j : ℕ) (x : X) → Apart xs → slice_get xs i ≡ Some x →
    slice_get xs j ≡ Some x → i ≡ j
one_place [] i j x apart h k = absurd (let e = h in cc)
one_place (y ∷ xs) zero zero x apart h k = refl
one_place (y ∷ xs) zero (suc j) x apart h k =
    absurd (apart.0 (subst (Among xs) (sym (same_Some y x h)) (Among-slice_get xs j x k)))
one_place (y ∷ xs) (suc i) zero x apart h k =
    absurd (apart.0 (subst (Among xs) (sym (same_Some y x k)) (Among-slice_get xs i x h)))
one_place (y ∷ xs) (suc i) (suc j) x apart h k = ap suc (one_place xs i j x apart.1 h k)

module _ {S : Type 0} (eq : S → S → Bool) (decides : (x y : S) → Decides (eq x y) (x ≡ y)) (own : S → Type 0)
    (m : Machine S) (names : List S) (g : Graph) (is : IsGraphOf eq own m names g) where
  named : (x : S) → Among (m.start ∷ map (λ e. e.to) (steps_from m 0 names)) x → Among names x
  named x h = subst (λ (s : List S). Among s x) (sym is.named)
      (Among-once eq decides (m.start ∷ map (λ e. e.to) (steps_from m 0 names)) x h)

  reached_among : (s : S) → Reached m s → Among names s
  reached_among s at_start = named m.start (inl refl)
  reached_among s (by_edge {s = t} label next r there) =
      let (n, lt, at) = slice_get-Among names t (reached_among t r) in
      named next (inr (Among-map (λ (e : Step S). e.to) (steps_from m 0 names)
      (record { from = 0 + n; label = label; to = next })
      (steps-there m 0 names n t label next at (Among-from_Contains (m.edges t) (label, next) there))))

  to_step : (e : Edge) → Among g.edges e → IsStepOf m names e
  to_step e h =
      let (step, k, same) = map-Among (numbered eq names) (steps_from m 0 names) e
      (once-Among same_edge same_edge-Decides (map (numbered eq names) (steps_from m 0 names)) e
      (subst (λ (s : List Edge). Among s e) is.edges h)) in
      let (n, s, at, from, there) = steps-from m 0 names step k in
      let here : n ≡ step.from = omega (arith, from) in
      let known : Among names step.to = named step.to
      (inr (Among-map (λ (e : Step S). e.to) (steps_from m 0 names) step k)) in
      subst (IsStepOf m names) same (
        s,
        step.to,
        subst (λ (i : ℕ). slice_get names i ≡ Some s) here at,
        (position-Among eq decides names step.to known).1,
        Contains-from_Among (m.edges s) (step.label, step.to)
            there,
      )

  from_step : (e : Edge) → IsStepOf m names e → Among g.edges e
  from_step e (p, q, at, to, there) =
      let found = position-Among eq decides names q (Among-slice_get names e.to q to) in
      let number : position_or_len (eq q) names ≡ e.to = one_place names (position_or_len (eq q) names) e.to q
      (Apart-from_AllPairs names is.different) found.1 to in
      let zero_more : 0 + e.from ≡ e.from = omega arith in
      let same : ◌≡◌ {A = Edge} (record { from = 0 + e.from; label = e.label; to = position_or_len (eq q) names }) e =
      ap (λ (k : ℕ). record { from = k; label = e.label; to = position_or_len (eq q) names }) zero_more
      ∙ ap (λ (k : ℕ). record { from = e.from; label = e.label; to = k }) number in
      let step = steps-there m 0 names e.from p e.label q at (Among-from_Contains (m.edges p) (e.label, q) there) in
      subst (λ (s : List Edge). Among s e) (sym is.edges)
      (Among-once same_edge same_edge-Decides (map (numbered eq names) (steps_from m 0 names)) e
      (subst (Among (map (numbered eq names) (steps_from m 0 names))) same
      (Among-map (numbered eq names) (steps_from m 0 names) _ step)))

  pub reached_part : IsReachedPart m names g
  reached_part = record {
    start = ap (λ (s : List S). slice_get s 0) is.named;
    different = is.different;
    reached = λ s. (
      (λ h. All-contains (Reached m) names s is.reached h),
      (λ r. Contains-from_Among names s (reached_among s r)),
    );
    accepting = is.accepting;
    edges = λ e. (
      (λ h. to_step e (Among-from_Contains g.edges e h)),
      (λ h. Contains-from_Among g.edges e (from_step e h)),
    );
    once = AllPairs-from_Apart g.edges
        (subst Apart (sym is.edges)
        (Apart-once same_edge same_edge-Decides (map (numbered eq names) (steps_from m 0 names))));
  }
