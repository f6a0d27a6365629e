-- The machine of both accepts what both machines accept.
use Rattle.std.proofs.Common.{◌↔◌, List, [], ◌∷◌, refl, sym, ap, subst}
use Rattle.std.proofs.lemmas.Bool.{and_parts, and_from}
use Rattle.auto_core.specs.declared.labels.Literal.{Literal}
use Rattle.auto_core.specs.Edges.{HasJoined}
use Rattle.auto_core.specs.LiteralSets.{put_all}
use Rattle.auto_core.specs.Machine.{Letter, Passes, Machine, AcceptsFrom, Accepts}
use Rattle.automata_product.specs.Both.{both_machine}

module _ {S T : Type 0} (m : Machine S) (n : Machine T)
    (passes_both : (ls ms : List Literal) (a : Letter) → Passes (put_all ls ms) a ↔ (Passes ls a × Passes ms a))
    (joined : HasJoined {S = S} {T = T} {U = S × T} (λ p q. (p, q))) where
  both_from : (w : List Letter) (p : S) (q : T) →
      AcceptsFrom m p w → AcceptsFrom n q w → AcceptsFrom (both_machine m n) (p, q) w
  both_from [] p q h k = and_from (m.accepts p) (n.accepts q) h k
  both_from (a ∷ w) p q h k = (
    put_all k.0 h.0,
    (h.1, k.1),
    (joined (m.edges p) (n.edges q) (put_all k.0 h.0, (h.1, k.1))).1 ((h.0, h.1), (k.0, k.1), h.2, k.2, refl),
    (passes_both k.0 h.0 a).1 (k.3, h.3),
    both_from w h.1 k.1 h.4 k.4,
  )

  to_both : (w : List Letter) (s : S × T) →
      AcceptsFrom (both_machine m n) s w → AcceptsFrom m s.0 w × AcceptsFrom n s.1 w
  to_both [] s h = and_parts (m.accepts s.0) (n.accepts s.1) h
  to_both (a ∷ w) s (label, next, there, passes, rest) =
      let (x, y, first, second, same) = (joined (m.edges s.0) (n.edges s.1) (label, next)).0 there in
      let passed : Passes (put_all y.0 x.0) a = subst (λ l. Passes l a) (sym (ap (λ e. e.0) same)) passes in
      let both = (passes_both y.0 x.0 a).0 passed in
      let more = to_both w next rest in
      let left = subst (λ t. AcceptsFrom m t w) (sym (ap (λ e. e.1.0) same)) more.0 in
      let right = subst (λ t. AcceptsFrom n t w) (sym (ap (λ e. e.1.1) same)) more.1 in
      ((x.0, x.1, first, both.1, left), (y.0, y.1, second, both.0, right))

  -- the lists that both accept, and no others
  pub both_words : (w : List Letter) → Accepts (both_machine m n) w ↔ (Accepts m w × Accepts n w)
  both_words w = (
    (λ h. to_both w (m.start, n.start) h),
    (λ h. both_from w m.start n.start h.0 h.1),
  )
