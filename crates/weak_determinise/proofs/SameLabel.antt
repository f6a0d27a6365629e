-- `==` of two labels answers true exactly where they are one.
use Rattle.std.proofs.Common.{◌≡◌, ℕ, Bool, true, false, List, refl, ap, arith}
use Rattle.std.specs.Bool.{Decides}
use Rattle.std.proofs.lemmas.Bool.Decides.{nat_tests}
use Rattle.std.proofs.lemmas.Slice.Eq.{slice_eq-Decides}
use Rattle.auto_core.specs.declared.labels.Literal.{Literal}
use Rattle.auto_core.specs.LiteralSets.{same_literal, same_label}

abbrev literal : ℕ → Bool → Literal
literal s p = record { symbol = s; positive = p }

by_sign : (s : ℕ) (p : Bool) (t : ℕ) (q : Bool) → Decides (same_literal (literal s p) (literal t q))
    (literal s p ≡ literal t q)
by_sign s true t true = (
  λ h. let e : s ≡ t = grind (arith, nat_tests) in ap (λ (n : ℕ). literal n true) e,
  λ e. let f : s ≡ t = ap (λ (l : Literal). l.symbol) e in grind (arith, nat_tests),
)
by_sign s true t false =
    (λ h. grind (arith, nat_tests), λ e. let f : true ≡ false = ap (λ (l : Literal). l.positive) e in cc)
by_sign s false t true =
    (λ h. grind (arith, nat_tests), λ e. let f : false ≡ true = ap (λ (l : Literal). l.positive) e in cc)
by_sign s false t false = (
  λ h. let e : s ≡ t = grind (arith, nat_tests) in ap (λ (n : ℕ). literal n false) e,
  λ e. let f : s ≡ t = ap (λ (l : Literal). l.symbol) e in grind (arith, nat_tests),
)

pub same_literal-Decides : (a b : Literal) → Decides (same_literal a b) (a ≡ b)
same_literal-Decides a b = by_sign a.symbol a.positive b.symbol b.positive

pub same_label-Decides : (xs ys : List Literal) → Decides (same_label xs ys) (xs ≡ ys)
same_label-Decides xs ys = slice_eq-Decides same_literal-Decides xs ys (same_label xs ys) refl
