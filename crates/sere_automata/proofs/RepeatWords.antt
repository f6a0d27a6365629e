-- The machine of a repetition accepts the repetitions.
use Rattle.std.proofs.Common.{◌≡◌, ◌↔◌, ◌⊎◌, ◌≢◌, ◌∙◌, cond, IsTrue, List, [], ◌∷◌, ◌++◌, map, Contains, inl, inr}
use Rattle.std.proofs.Common.{refl, sym, ap, subst}
use Rattle.std.proofs.lemmas.List.Elements.{Contains-append_left, Contains-append_right, Contains-append_cases}
use Rattle.std.specs.List.{AllByRecursion}
use Rattle.auto_core.specs.declared.labels.Literal.{Literal}
use Rattle.auto_core.specs.Machine.{Letter, Passes, Machine, AcceptsFrom, Accepts}
use Rattle.auto_core.specs.Edges.{renamed, HasRenamed}
use Rattle.auto_core.specs.Splits.{IsConcatenation, IsRepetition, joined}
use Rattle.sere_automata.proofs.Follow.{contains-if, contains-if_cases}
use Rattle.sere_automata.specs.declared.states.Round.{Round}
use Rattle.sere_automata.specs.declared.states.Round.TheVariants.{Inner}
use Rattle.sere_automata.specs.Repeat.{repeat_machine}

module _ {S : Type 0} (m : Machine S) (inners : HasRenamed {S = S} {U = Round S} Inner) where
  -- a part is read to its end, and then the rest of the parts
  walk : (parts : List (List Letter)) →
      ((p : S) → IsTrue (m.accepts p) → AcceptsFrom (repeat_machine m) (Inner p) (joined parts)) →
      (u : List Letter) (p : S) → AcceptsFrom m p u → AcceptsFrom (repeat_machine m) (Inner p) (u ++ joined parts)
  walk parts rest [] p h = rest p h
  walk parts rest (a ∷ u) p h = (
    h.0,
    Inner h.1,
    Contains-append_left (map (renamed Inner) (m.edges p)) _ _
        ((inners (m.edges p) h.0 (Inner h.1)).1 (h.1, h.2, refl)),
    h.3,
    walk parts rest u h.1 h.4,
  )

  again : (parts : List (List Letter)) → AllByRecursion (λ u. (u ≢ []) × Accepts m u) parts →
      (p : S) → IsTrue (m.accepts p) → AcceptsFrom (repeat_machine m) (Inner p) (joined parts)
  again [] all p t = t
  again ([] ∷ parts) all p t = absurd (all.0.0 refl)
  again ((a ∷ u) ∷ parts) all p t =
      let h = all.0.1 in
      let led = (inners (m.edges m.start) h.0 (Inner h.1)).1 (h.1, h.2, refl) in (
        h.0,
        Inner h.1,
        Contains-append_right (map (renamed Inner) (m.edges p)) _ _
            (contains-if (m.accepts p) (map (renamed Inner) (m.edges m.start)) (h.0, Inner h.1) t led),
        h.3,
        walk parts (again parts all.1) u h.1 h.4,
      )

  repeat_from : (parts : List (List Letter)) → AllByRecursion (λ u. (u ≢ []) × Accepts m u) parts →
      Accepts (repeat_machine m) (joined parts)
  repeat_from [] all = refl
  repeat_from ([] ∷ parts) all = absurd (all.0.0 refl)
  repeat_from ((a ∷ u) ∷ parts) all =
      let h = all.0.1 in (
        h.0,
        Inner h.1,
        (inners (m.edges m.start) h.0 (Inner h.1)).1 (h.1, h.2, refl),
        h.3,
        walk parts (again parts all.1) u h.1 h.4,
      )

  -- a part that is begun, and a repetition
  more : (a : Letter) (w : List Letter) (x : List Literal × S) → Contains (m.edges m.start) x → Passes x.0 a →
      IsConcatenation (AcceptsFrom m x.1) (IsRepetition (Accepts m)) w → IsRepetition (Accepts m) (a ∷ w)
  more a w x has passed c =
      let v = c.4 in (
        (a ∷ c.0) ∷ v.0,
        (((λ e. absurd (cc)), (x.0, x.1, has, passed, c.3)), v.1),
        ap (λ z. a ∷ z) (c.2 ∙ ap (λ z. c.0 ++ z) v.2),
      )

  to_inner : (w : List Letter) (p : S) →
      AcceptsFrom (repeat_machine m) (Inner p) w → IsConcatenation (AcceptsFrom m p) (IsRepetition (Accepts m)) w
  to_inner [] p h = ([], [], refl, h, ([], tt, refl))
  to_inner (a ∷ w) p (label, next, there, passes, rest) =
      elim (Contains-append_cases (map (renamed Inner) (m.edges p))
      (cond (m.accepts p) (map (renamed Inner) (m.edges m.start)) []) (label, next) there) [
        | inl k ↦
            let r = (inners (m.edges p) label next).0 k in
            let after = to_inner w r.0 (subst (λ t. AcceptsFrom (repeat_machine m) t w) (sym r.2) rest) in
            (a ∷ after.0, after.1, ap (λ v. a ∷ v) after.2, (label, r.0, r.1, passes, after.3), after.4)
        | inr k ↦
            let c = contains-if_cases (m.accepts p) (map (renamed Inner) (m.edges m.start)) (label, next) k in
            let r = (inners (m.edges m.start) label next).0 c.1 in
            let after = to_inner w r.0 (subst (λ t. AcceptsFrom (repeat_machine m) t w) (sym r.2) rest) in
            ([], a ∷ w, refl, c.0, more a w (label, r.0) r.1 passes after)
      ]

  to_repeat : (w : List Letter) → Accepts (repeat_machine m) w → IsRepetition (Accepts m) w
  to_repeat [] h = ([], tt, refl)
  to_repeat (a ∷ w) (label, next, there, passes, rest) =
      let r = (inners (m.edges m.start) label next).0 there in
      more a w (label, r.0) r.1 passes
      (to_inner w r.0 (subst (λ t. AcceptsFrom (repeat_machine m) t w) (sym r.2) rest))

  -- the repetitions, and no other lists
  pub repeat_words : (w : List Letter) → Accepts (repeat_machine m) w ↔ IsRepetition (Accepts m) w
  repeat_words w = (
    (λ h. to_repeat w h),
    (λ (parts, all, e). subst (λ w. Accepts (repeat_machine m) w) (sym e) (repeat_from parts all)),
  )

  -- the empty list, or a non-empty list of the part and after it one of the repetition's own
  unrolled_parts : (w : List Letter) (parts : List (List Letter)) →
      AllByRecursion (λ u. (u ≢ []) × Accepts m u) parts → w ≡ joined parts →
      (w ≡ []) ⊎ ((u : List Letter) × (v : List Letter) × (w ≡ u ++ v) × (u ≢ []) × Accepts m u ×
      Accepts (repeat_machine m) v)
  unrolled_parts w [] all e = inl e
  unrolled_parts w (u ∷ parts) all e = inr (u, joined parts, e, all.0.0, all.0.1, repeat_from parts all.1)

  rolled : (u v : List Letter) → u ≢ [] → Accepts m u → Accepts (repeat_machine m) v →
      Accepts (repeat_machine m) (u ++ v)
  rolled u v some h k =
      let r = to_repeat v k in
      subst (λ w. Accepts (repeat_machine m) w) (sym (ap (λ z. u ++ z) r.2)) (repeat_from (u ∷ r.0) ((some, h), r.1))

  pub repeat_unrolled : (w : List Letter) → Accepts (repeat_machine m) w
      ↔ ((w ≡ []) ⊎ ((u : List Letter) × (v : List Letter) × (w ≡ u ++ v) × (u ≢ []) × Accepts m u ×
      Accepts (repeat_machine m) v))
  repeat_unrolled w = (
    (λ h. let r = to_repeat w h in unrolled_parts w r.0 r.1 r.2),
    (λ h. elim h [
      | inl e ↦ subst (λ w. Accepts (repeat_machine m) w) (sym e) refl
      | inr k ↦ subst (λ w. Accepts (repeat_machine m) w) (sym k.2) (rolled k.0 k.1 k.3 k.4 k.5)
    ]),
  )
