-- The machine of a concatenation accepts the concatenations.
use Rattle.std.proofs.Common.{◌↔◌, cond, IsTrue, List, [], ◌∷◌, ◌++◌, map, inl, inr, refl, sym, ap, subst}
use Rattle.std.proofs.lemmas.Bool.{and_parts, and_from}
use Rattle.std.proofs.lemmas.List.Elements.{Contains-append_left, Contains-append_right, Contains-append_cases}
use Rattle.auto_core.specs.Edges.{renamed, HasRenamed}
use Rattle.auto_core.specs.Machine.{Letter, Machine, AcceptsFrom, Accepts}
use Rattle.auto_core.specs.Splits.{IsConcatenation}
use Rattle.automata_product.specs.declared.side.Side.{Side}
use Rattle.automata_product.specs.declared.side.Side.TheVariants.{Left, Right}
use Rattle.sere_automata.specs.Concat.{concat_machine}
use Rattle.sere_automata.proofs.Follow.{contains-if, contains-if_cases}

module _ {S T : Type 0} (m : Machine S) (n : Machine T)
    (lefts : HasRenamed {S = S} {U = Side S T} Left)
    (rights : HasRenamed {S = T} {U = Side S T} Right)
    (right : (q : T) (w : List Letter) → AcceptsFrom (concat_machine m n) (Right q) w ↔ AcceptsFrom n q w) where
  follows : (v : List Letter) (p : S) → IsTrue (m.accepts p) → Accepts n v → AcceptsFrom (concat_machine m n) (Left p) v
  follows [] p t k = and_from (m.accepts p) (n.accepts n.start) t k
  follows (a ∷ v) p t k =
      let led = (rights (n.edges n.start) k.0 (Right k.1)).1 (k.1, k.2, refl) in (
        k.0,
        Right k.1,
        Contains-append_right (map (renamed Left) (m.edges p)) _ _
            (contains-if (m.accepts p) (map (renamed Right) (n.edges n.start)) (k.0, Right k.1) t led),
        k.3,
        (right k.1 v).1 k.4,
      )

  concat_from : (u : List Letter) (p : S) (v : List Letter) →
      AcceptsFrom m p u → Accepts n v → AcceptsFrom (concat_machine m n) (Left p) (u ++ v)
  concat_from [] p v h k = follows v p h k
  concat_from (a ∷ u) p v h k = (
    h.0,
    Left h.1,
    Contains-append_left (map (renamed Left) (m.edges p)) _ _ ((lefts (m.edges p) h.0 (Left h.1)).1 (h.1, h.2, refl)),
    h.3,
    concat_from u h.1 v h.4 k,
  )

  to_concat : (w : List Letter) (p : S) →
      AcceptsFrom (concat_machine m n) (Left p) w → IsConcatenation (AcceptsFrom m p) (Accepts n) w
  to_concat [] p h = let both = and_parts (m.accepts p) (n.accepts n.start) h in ([], [], refl, both.0, both.1)
  to_concat (a ∷ w) p (label, next, there, passes, rest) =
      elim (Contains-append_cases (map (renamed Left) (m.edges p))
      (cond (m.accepts p) (map (renamed Right) (n.edges n.start)) []) (label, next) there) [
        | inl k ↦
            let r = (lefts (m.edges p) label next).0 k in
            let more = to_concat w r.0 (subst (λ t. AcceptsFrom (concat_machine m n) t w) (sym r.2) rest) in
            (a ∷ more.0, more.1, ap (λ v. a ∷ v) more.2, (label, r.0, r.1, passes, more.3), more.4)
        | inr k ↦
            let c = contains-if_cases (m.accepts p) (map (renamed Right) (n.edges n.start)) (label, next) k in
            let r = (rights (n.edges n.start) label next).0 c.1 in
            let after = subst (λ t. AcceptsFrom (concat_machine m n) t w) (sym r.2) rest in
            ([], a ∷ w, refl, c.0, (label, r.0, r.1, passes, (right r.0 w).0 after))
      ]

  -- the concatenations, and no other lists
  pub concat_words : (w : List Letter) → Accepts (concat_machine m n) w ↔ IsConcatenation (Accepts m) (Accepts n) w
  concat_words w = (
    (λ h. to_concat w m.start h),
    (λ (u, v, e, h, k). subst (λ w. Accepts (concat_machine m n) w) (sym e) (concat_from u m.start v h k)),
  )
