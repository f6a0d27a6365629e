-- `==` of two labels, and of two edges, answers true exactly where they are one.
use Rattle.std.proofs.Common.{◌≡◌, ℕ, Bool, true, false, ◌&&◌, eqb, List, refl, ap, arith}
use Rattle.std.specs.Bool.{Decides}
use Rattle.std.proofs.lemmas.Bool.Decides.{nat_tests, Decides-eqb}
use Rattle.std.proofs.lemmas.Bool.{and_parts, and_from}
use Rattle.std.proofs.lemmas.Slice.Eq.{slice_eq-Decides}
use Rattle.auto_core.specs.declared.labels.Literal.{Literal}
use Rattle.auto_core.specs.declared.tables.Edge.{Edge}
use Rattle.auto_core.specs.inner.Order.{same_edge}
use Rattle.auto_core.specs.LiteralSets.{same_literal, same_label}

abbrev literal : ℕ → Bool → Literal
literal s p = record { symbol = s; positive = p }

by_sign : (s : ℕ) (p : Bool) (t : ℕ) (q : Bool) → Decides (same_literal (literal s p) (literal t q))
    (literal s p ≡ literal t q)
by_sign s true t true = (
  λ h. let e : s ≡ t = grind (arith, nat_tests) in ap (λ (n : ℕ). literal n true) e,
  λ e. let f : s ≡ t = ap (λ (l : Literal). l.symbol) e in grind (arith, nat_tests),
)
by_sign s true t false =
    (λ h. grind (arith, nat_tests), λ e. let f : true ≡ false = ap (λ (l : Literal). l.positive) e in cc)
by_sign s false t true =
    (λ h. grind (arith, nat_tests), λ e. let f : false ≡ true = ap (λ (l : Literal). l.positive) e in cc)
by_sign s false t false = (
  λ h. let e : s ≡ t = grind (arith, nat_tests) in ap (λ (n : ℕ). literal n false) e,
  λ e. let f : s ≡ t = ap (λ (l : Literal). l.symbol) e in grind (arith, nat_tests),
)

pub same_literal-Decides : (a b : Literal) → Decides (same_literal a b) (a ≡ b)
same_literal-Decides a b = by_sign a.symbol a.positive b.symbol b.positive

pub same_label-Decides : (xs ys : List Literal) → Decides (same_label xs ys) (xs ≡ ys)
same_label-Decides xs ys = slice_eq-Decides same_literal-Decides xs ys (same_label xs ys) refl

-- `==` of two edges answers true exactly where they are one
pub same_edge-Decides : (a b : Edge) → Decides (same_edge a b) (a ≡ b)
same_edge-Decides a b = (
  λ h. let froms : a.from ≡ b.from = (Decides-eqb a.from b.from).0 ((and_parts (eqb a.from b.from) _ h).0) in
      let rest : (same_label a.label b.label && eqb a.to b.to) ≡ true = (and_parts (eqb a.from b.from) _ h).1 in
      let labels : a.label ≡ b.label = (same_label-Decides a.label b.label).0
      ((and_parts (same_label a.label b.label) _ rest).0) in
      let tos : a.to ≡ b.to = (Decides-eqb a.to b.to).0 ((and_parts (same_label a.label b.label) _ rest).1) in
      λ i. record { from = froms i; label = labels i; to = tos i },
  λ e. and_from (eqb a.from b.from) _ ((Decides-eqb a.from b.from).1 (ap (λ (x : Edge). x.from) e))
      (and_from (same_label a.label b.label) _
      ((same_label-Decides a.label b.label).1 (ap (λ (x : Edge). x.label) e))
      ((Decides-eqb a.to b.to).1 (ap (λ (x : Edge). x.to) e))),
)
