-- A machine that is part of another under a renaming of its states, up to the order and number of equal edges.
use Rattle.std.proofs.Common.{◌≡◌, ◌↔◌, ◌∙◌, refl, sym, ap, subst, IsTrue, List, [], ◌∷◌}
use Rattle.auto_core.specs.Machine.{Machine, Letter, AcceptsFrom, Accepts}
use Rattle.auto_core.specs.Graph.{Reached, at_start, by_edge}
use Rattle.sequence_tables.proofs.Members.{Among, Contains-from_Among, Among-from_Contains}
use Rattle.sequence_tables.proofs.Maps.{Maps}

-- different own states keep different names, and starts, acceptance and edges agree
pub record Embeds {S T : Type 0} (own : S → Type 0) (m : Machine S) (n : Machine T) (f : S → T) : Type 0 where
  pub start : f m.start ≡ n.start
  pub owned : own m.start
  pub different : (s t : S) → own s → own t → f s ≡ f t → s ≡ t
  pub accepts : (s : S) → own s → m.accepts s ≡ n.accepts (f s)
  pub steps : (s : S) → own s → Maps own f (m.edges s) (n.edges (f s))

pub embeds_self : {S : Type 0} (m : Machine S) → Embeds (λ _. Unit {0}) m m (λ s. s)
embeds_self m = record {
  start = refl;
  owned = tt;
  different = λ s t o p e. e;
  accepts = λ s o. refl;
  steps = λ s o. record { owned = λ l t k. tt; there = λ l t k. k; back = λ l u k. (u, k, refl) };
}

pub embeds_through : {S T U : Type 0} {own : S → Type 0} {owns : T →
    Type 0} {m : Machine S} {n : Machine T} {o : Machine U} (f : S → T) (g : T → U) → ((s : S) → own s → owns (f s)) →
    Embeds own m n f → Embeds owns n o g → Embeds own m o (λ s. g (f s))
embeds_through {S} {T} {U} {own} {owns} {m} {n} {o} f g into a b = record {
  start = ap g a.start ∙ b.start;
  owned = a.owned;
  different = λ s t p q e. a.different s t p q (b.different (f s) (f t) (into s p) (into t q) e);
  accepts = λ s p. a.accepts s p ∙ b.accepts (f s) (into s p);
  steps = λ s p. record {
    owned = λ l t k. (a.steps s p).owned l t k;
    there = λ l t k. (b.steps (f s) (into s p)).there l (f t) ((a.steps s p).there l t k);
    back = λ l u k.
        let y = (b.steps (f s) (into s p)).back l u k in
        let x = (a.steps s p).back l y.0 y.1 in
        (x.0, x.1, ap g x.2 ∙ y.2);
  };
}

module _ {S T : Type 0} {own : S → Type 0} {m : Machine S} {n : Machine T} (f : S → T) (e : Embeds own m n f) where
  pub reached_there : (s : S) → Reached m s → own s × Reached n (f s)
  reached_there s at_start = (e.owned, subst (Reached n) (sym e.start) at_start)
  reached_there s (by_edge {s = t} label next r k) =
      let before = reached_there t r in
      let steps = e.steps t before.0 in
      let edge = Among-from_Contains (m.edges t) (label, next) k in (
        steps.owned label next edge,
        by_edge label (f next) before.1 (Contains-from_Among (n.edges (f t)) (
          label,
          f next,
        ) (steps.there label next edge)),
      )

  pub reached_back : (u : T) → Reached n u → (s : S) × Reached m s × (f s ≡ u)
  reached_back u at_start = (m.start, at_start, e.start)
  reached_back u (by_edge {s = t} label next r k) =
      let before = reached_back t r in
      let steps = e.steps before.0 (reached_there before.0 before.1).0 in
      let edge = steps.back label next (subst (λ (z : T). Among (n.edges z) (
        label,
        next,
      )) (sym before.2) (Among-from_Contains (n.edges t) (label, next) k)) in
      (edge.0, by_edge label edge.0 before.1 (Contains-from_Among (m.edges before.0) (label, edge.0) edge.1), edge.2)

  words_there : (w : List Letter) (s : S) → own s → AcceptsFrom m s w → AcceptsFrom n (f s) w
  words_there [] s o h = subst IsTrue (e.accepts s o) h
  words_there (a ∷ w) s o h =
      let steps = e.steps s o in
      let edge = Among-from_Contains (m.edges s) (h.0, h.1) h.2 in (
        h.0,
        f h.1,
        Contains-from_Among (n.edges (f s)) (h.0, f h.1) (steps.there h.0 h.1 edge),
        h.3,
        words_there w h.1 (steps.owned h.0 h.1 edge) h.4,
      )

  words_back : (w : List Letter) (s : S) → own s → AcceptsFrom n (f s) w → AcceptsFrom m s w
  words_back [] s o h = subst IsTrue (sym (e.accepts s o)) h
  words_back (a ∷ w) s o h =
      let steps = e.steps s o in
      let edge = steps.back h.0 h.1 (Among-from_Contains (n.edges (f s)) (h.0, h.1) h.2) in (
        h.0,
        edge.0,
        Contains-from_Among (m.edges s) (h.0, edge.0) edge.1,
        h.3,
        words_back w edge.0 (steps.owned h.0 edge.0 edge.1) (subst (λ (z : T). AcceptsFrom n z w) (sym edge.2) h.4),
      )

  -- the two accept the same lists
  pub same_words : (w : List Letter) → Accepts m w ↔ Accepts n w
  same_words w = (
    (λ h. subst (λ (z : T). AcceptsFrom n z w) e.start (words_there w m.start e.owned h)),
    (λ h. words_back w m.start e.owned (subst (λ (z : T). AcceptsFrom n z w) (sym e.start) h)),
  )
