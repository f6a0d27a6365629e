-- A copy of a machine in another accepts what the machine does.
use Rattle.std.proofs.Common.{◌↔◌, IsTrue, List, [], ◌∷◌, refl, sym, subst, Contains}
use Rattle.auto_core.specs.declared.labels.Literal.{Literal}
use Rattle.auto_core.specs.Edges.{HasCopy}
use Rattle.auto_core.specs.Machine.{Machine, Letter, AcceptsFrom}
use Rattle.auto_core.proofs.EdgeMembers.{has_renamed}

module _ {S U : Type 0} (m : Machine S) (k : Machine U) (f : S → U) (copy : HasCopy m k f) where
  to_copy : (w : List Letter) (s : S) → AcceptsFrom m s w → AcceptsFrom k (f s) w
  to_copy [] s h = subst IsTrue (sym (copy.accepts s)) h
  to_copy (a ∷ w) s (label, next, there, passes, rest) =
      let edge = (has_renamed f (m.edges s) label (f next)).1 (next, there, refl) in
      let same = sym (copy.edges s) in (
        label,
        f next,
        subst (λ (es : List (List Literal × U)). Contains es (label, f next)) same edge,
        passes,
        to_copy w next rest,
      )

  from_copy : (w : List Letter) (s : S) → AcceptsFrom k (f s) w → AcceptsFrom m s w
  from_copy [] s h = subst IsTrue (copy.accepts s) h
  from_copy (a ∷ w) s (label, next, there, passes, rest) =
      let edge = subst (λ (es : List (List Literal × U)). Contains es (label, next)) (copy.edges s) there in
      let r = (has_renamed f (m.edges s) label next).0 edge in
      (label, r.0, r.1, passes, from_copy w r.0 (subst (λ (u : U). AcceptsFrom k u w) (sym r.2) rest))

  pub copy_words : (w : List Letter) (s : S) → AcceptsFrom k (f s) w ↔ AcceptsFrom m s w
  copy_words w s = (from_copy w s, to_copy w s)
