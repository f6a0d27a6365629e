-- A machine that is part of a graph under a renaming of its states, up to the order and number of equal edges.
use Rattle.std.proofs.Common.{◌≡◌, ◌∙◌, sym, ap, subst, Bool, List}
use Rattle.auto_core.specs.declared.labels.Literal.{Literal}
use Rattle.auto_core.specs.Graph.{Reached, at_start, by_edge}
use Rattle.auto_core.specs.Machine.{Machine}
use Rattle.sequence_tables.specs.PlaceTable as place
use Rattle.sequence_tables.specs.PlaceTable.{ReachedBy}
use Rattle.sequence_tables.proofs.Embeds.{Embeds}
use Rattle.sequence_tables.proofs.Leads.{Leads}
use Rattle.sequence_tables.proofs.Members.{Contains-from_Among, Among-from_Contains}

-- different own states keep different names, and starts, acceptance and steps agree
pub record Into {S T : Type 0} (own : S → Type 0) (m : Machine S) (start : T) (accepting : T → Bool)
    (step : T → List Literal → T → Type 0) (f : S → T) : Type 0 where
  pub begins : f m.start ≡ start
  pub owned : own m.start
  pub different : (s t : S) → own s → own t → f s ≡ f t → s ≡ t
  pub accepts : (s : S) → own s → m.accepts s ≡ accepting (f s)
  pub steps : (s : S) → own s → Leads own f (m.edges s) (step (f s))

module _ {T : Type 0} {start : T} {accepting : T → Bool} {step : T → List Literal → T → Type 0} where
  pub into_through : {S U : Type 0} {own : S → Type 0} {owns : U → Type 0} {m : Machine S} {n : Machine U}
      (f : S → U) (g : U → T) → ((s : S) → own s → owns (f s)) → Embeds own m n f →
      Into owns n start accepting step g → Into own m start accepting step (λ s. g (f s))
  into_through f g into a b = record {
    begins = ap g a.start ∙ b.begins;
    owned = a.owned;
    different = λ s t p q e. a.different s t p q (b.different (f s) (f t) (into s p) (into t q) e);
    accepts = λ s p. a.accepts s p ∙ b.accepts (f s) (into s p);
    steps = λ s p. record {
      owned = λ l t k. (a.steps s p).owned l t k;
      there = λ l t k. (b.steps (f s) (into s p)).there l (f t) ((a.steps s p).there l t k);
      back = λ l u k.
          let y = (b.steps (f s) (into s p)).back l u k in
          let x = (a.steps s p).back l y.0 y.1 in
          (x.0, x.1, ap g x.2 ∙ y.2);
    };
  }

  module _ {S : Type 0} {own : S → Type 0} {m : Machine S} {f : S → T} (a : Into own m start accepting step f) where
    pub first_steps : Leads own f (m.edges m.start) (step start)
    first_steps = subst (λ (z : T). Leads own f (m.edges m.start) (step z)) a.begins (a.steps m.start a.owned)

    pub first_accepts : m.accepts m.start ≡ accepting start
    first_accepts = a.accepts m.start a.owned ∙ ap accepting a.begins

    pub reached_there : (s : S) → Reached m s → own s × ReachedBy start step (f s)
    reached_there s at_start = (a.owned, subst (ReachedBy start step) (sym a.begins) place.at_start)
    reached_there s (by_edge {s = t} label next r k) =
        let before = reached_there t r in
        let steps = a.steps t before.0 in
        let edge = Among-from_Contains (m.edges t) (label, next) k in
        (steps.owned label next edge, place.by_step label (f next) before.1 (steps.there label next edge))

    pub reached_back : (u : T) → ReachedBy start step u → (s : S) × Reached m s × (f s ≡ u)
    reached_back u place.at_start = (m.start, at_start, a.begins)
    reached_back u (place.by_step {p = t} label next r k) =
        let before = reached_back t r in
        let steps = a.steps before.0 (reached_there before.0 before.1).0 in
        let edge = steps.back label next (subst (λ (z : T). step z label next) (sym before.2) k) in (
          edge.0,
          by_edge label edge.0 before.1 (Contains-from_Among (m.edges before.0) (label, edge.0) edge.1),
          edge.2,
        )
