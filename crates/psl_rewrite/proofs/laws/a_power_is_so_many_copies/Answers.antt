use Rattle.std.specs.Prelude.{◌≡◌, ℕ, ◌-◌, Some}
use Rattle.std.proofs.Common.{sym, ap, subst, arith}
use Rattle.psl_meaning.specs.Sequence.{CoreSere, Tight, Copies}
use Rattle.psl_meaning.specs.SequenceSugar.{copies, union_of_copies, repeated}
use Rattle.psl_rewrite.specs.Meaning.{meant_core}
use Rattle.psl_rewrite.proofs.laws.a_power_is_so_many_copies.Goals as goal

pub returns : goal.returns
returns c widths r k w =
    let none : k - k ≡ 0 = omega arith in
    let same : repeated k (Some k) (meant_core r) ≡ copies k (meant_core r) =
    ap (λ (n : ℕ). union_of_copies k n (meant_core r)) none in
    let law = c.a_repetition_is_a_number_of_copies.ensures.between widths (meant_core r) k k w (omega arith) in (
      (λ tight.
          let found = law.0 (subst (λ (s : CoreSere). Tight widths s w) (sym same) tight) in
          let count : found.0 ≡ k = omega (arith, found.1, found.2) in
          subst (λ (n : ℕ). Copies (Tight widths (meant_core r)) n w) count found.3),
      (λ many. subst (λ (s : CoreSere). Tight widths s w) same (law.1 (k, omega arith, omega arith, many))),
    )
