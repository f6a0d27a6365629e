-- The machine of a choice accepts what either machine accepts.
use Rattle.std.proofs.Common.{◌↔◌, ◌⊎◌, List, [], ◌∷◌, map, inl, inr, refl, sym, subst}
use Rattle.std.proofs.lemmas.Bool.{or_cases, or_left, or_right}
use Rattle.std.proofs.lemmas.List.Elements.{Contains-append_left, Contains-append_right, Contains-append_cases}
use Rattle.auto_core.specs.Edges.{renamed, HasRenamed}
use Rattle.auto_core.specs.Machine.{Letter, Machine, AcceptsFrom, Accepts}
use Rattle.sere_automata.specs.declared.states.Choice.{Choice}
use Rattle.sere_automata.specs.declared.states.Choice.TheVariants.{Left, Right}
use Rattle.sere_automata.specs.OneOf.{one_of_machine}

module _ {S T : Type 0} (m : Machine S) (n : Machine T)
    (lefts : HasRenamed {S = S} {U = Choice S T} Left)
    (rights : HasRenamed {S = T} {U = Choice S T} Right)
    (left : (p : S) (w : List Letter) → AcceptsFrom (one_of_machine m n) (Left p) w ↔ AcceptsFrom m p w)
    (right : (q : T) (w : List Letter) → AcceptsFrom (one_of_machine m n) (Right q) w ↔ AcceptsFrom n q w) where
  from_left : (w : List Letter) → Accepts m w → Accepts (one_of_machine m n) w
  from_left [] h = or_left (m.accepts m.start) (n.accepts n.start) h
  from_left (a ∷ w) h =
      let led = (lefts (m.edges m.start) h.0 (Left h.1)).1 (h.1, h.2, refl) in
      (h.0, Left h.1, Contains-append_left (map (renamed Left) (m.edges m.start)) _ _ led, h.3, (left h.1 w).1 h.4)

  from_right : (w : List Letter) → Accepts n w → Accepts (one_of_machine m n) w
  from_right [] h = or_right (m.accepts m.start) (n.accepts n.start) h
  from_right (a ∷ w) h =
      let led = (rights (n.edges n.start) h.0 (Right h.1)).1 (h.1, h.2, refl) in
      (h.0, Right h.1, Contains-append_right (map (renamed Left) (m.edges m.start)) _ _ led, h.3, (right h.1 w).1 h.4)

  to_one_of : (w : List Letter) → Accepts (one_of_machine m n) w → Accepts m w ⊎ Accepts n w
  to_one_of [] h = or_cases (m.accepts m.start) (n.accepts n.start) h
  to_one_of (a ∷ w) (label, next, there, passes, rest) =
      elim (Contains-append_cases (map (renamed Left) (m.edges m.start)) (map (renamed Right) (n.edges n.start))
      (label, next) there) [
        | inl k ↦
            let r = (lefts (m.edges m.start) label next).0 k in
            let after = subst (λ t. AcceptsFrom (one_of_machine m n) t w) (sym r.2) rest in
            inl (label, r.0, r.1, passes, (left r.0 w).0 after)
        | inr k ↦
            let r = (rights (n.edges n.start) label next).0 k in
            let after = subst (λ t. AcceptsFrom (one_of_machine m n) t w) (sym r.2) rest in
            inr (label, r.0, r.1, passes, (right r.0 w).0 after)
      ]

  -- the union
  pub one_of_words : (w : List Letter) → Accepts (one_of_machine m n) w ↔ (Accepts m w ⊎ Accepts n w)
  one_of_words w = (
    (λ h. to_one_of w h),
    (λ h. elim h [ inl k ↦ from_left w k | inr k ↦ from_right w k ]),
  )
