-- The machine of a fusion accepts the overlaps in one letter.
use Rattle.std.proofs.Common.{◌↔◌, List, [], ◌∷◌, ◌++◌, map, inl, inr, refl, sym, ap, subst}
use Rattle.std.proofs.lemmas.List.Elements.{Contains-append_left, Contains-append_right, Contains-append_cases}
use Rattle.auto_core.specs.declared.labels.Literal.{Literal}
use Rattle.auto_core.specs.Edges.{renamed, last_edges, HasRenamed, HasJoined, HasTested}
use Rattle.auto_core.specs.LiteralSets.{put_all}
use Rattle.auto_core.specs.Machine.{Letter, Passes, Machine, AcceptsFrom, Accepts}
use Rattle.auto_core.specs.Splits.{IsFusion}
use Rattle.automata_product.specs.declared.side.Side.{Side}
use Rattle.automata_product.specs.declared.side.Side.TheVariants.{Left, Right}
use Rattle.automata_product.specs.Fuse.{fuse_machine, joint_edges}

module _ {S T : Type 0} (m : Machine S) (n : Machine T)
    (passes_both : (ls ms : List Literal) (a : Letter) → Passes (put_all ls ms) a ↔ (Passes ls a × Passes ms a))
    (joined : HasJoined {S = S} {T = T} {U = Side S T} (λ last q. Right q))
    (lefts : HasRenamed {S = S} {U = Side S T} Left)
    (tested : HasTested m.accepts)
    (right : (q : T) (w : List Letter) → AcceptsFrom (fuse_machine m n) (Right q) w ↔ AcceptsFrom n q w) where
  fuse_from : (u : List Letter) (p : S) (a : Letter) (v : List Letter) →
      AcceptsFrom m p (u ++ a ∷ []) → Accepts n (a ∷ v) → AcceptsFrom (fuse_machine m n) (Left p) (u ++ a ∷ v)
  fuse_from [] p a v h k =
      let last = (tested (m.edges p) (h.0, h.1)).1 (h.2, h.4) in
      let edge =
      (joined (last_edges m p) (n.edges n.start) (put_all k.0 h.0, Right k.1)).1
      ((h.0, h.1), (k.0, k.1), last, k.2, refl) in (
        put_all k.0 h.0,
        Right k.1,
        Contains-append_right (map (renamed Left) (m.edges p)) _ _ edge,
        (passes_both k.0 h.0 a).1 (k.3, h.3),
        (right k.1 v).1 k.4,
      )
  fuse_from (b ∷ u) p a v h k = (
    h.0,
    Left h.1,
    Contains-append_left (map (renamed Left) (m.edges p)) _ _ ((lefts (m.edges p) h.0 (Left h.1)).1 (h.1, h.2, refl)),
    h.3,
    fuse_from u h.1 a v h.4 k,
  )

  to_fuse : (w : List Letter) (p : S) →
      AcceptsFrom (fuse_machine m n) (Left p) w → IsFusion (AcceptsFrom m p) (Accepts n) w
  to_fuse [] p h = absurd (cc)
  to_fuse (a ∷ w) p (label, next, there, passes, rest) =
      elim (Contains-append_cases (map (renamed Left) (m.edges p)) (joint_edges m n p) (label, next) there) [
        | inl k ↦
            let r = (lefts (m.edges p) label next).0 k in
            let more = to_fuse w r.0 (subst (λ t. AcceptsFrom (fuse_machine m n) t w) (sym r.2) rest) in
            (a ∷ more.0, more.1, more.2, ap (λ v. a ∷ v) more.3, (label, r.0, r.1, passes, more.4), more.5)
        | inr k ↦
            let (x, y, first, second, same) = (joined (last_edges m p) (n.edges n.start) (label, next)).0 k in
            let last = (tested (m.edges p) x).0 first in
            let passed : Passes (put_all y.0 x.0) a = subst (λ l. Passes l a) (sym (ap (λ e. e.0) same)) passes in
            let both = (passes_both y.0 x.0 a).0 passed in
            let after = subst (λ t. AcceptsFrom (fuse_machine m n) t w) (sym (ap (λ e. e.1) same)) rest in (
              [],
              a,
              w,
              refl,
              (x.0, x.1, last.0, both.1, last.1),
              (y.0, y.1, second, both.0, (right y.1 w).0 after),
            )
      ]

  -- the overlaps in one letter, and no other lists
  pub fuse_words : (w : List Letter) → Accepts (fuse_machine m n) w ↔ IsFusion (Accepts m) (Accepts n) w
  fuse_words w = (
    (λ h. to_fuse w m.start h),
    (λ (u, a, v, e, h, k). subst (λ w. Accepts (fuse_machine m n) w) (sym e) (fuse_from u m.start a v h k)),
  )
