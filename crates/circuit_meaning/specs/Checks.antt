-- When a netlist checks a formula, in each run, which begins with the registers' reset values.
use Rattle.std.specs.Prelude.{ℕ, suc, ◌≡◌, ◌↔◌, List, Some, length, take}
use Rattle.psl_model.specs.Formula.{Formula}
use Rattle.psl_meaning.specs.Violation.{WeaklyViolates, Violates}
use Rattle.circuit_core.specs.Netlist.{Netlist}
use Rattle.circuit_core.specs.Run.{On, Throughout, InEachRun}
use Rattle.circuit_core.specs.Starts.{ComesBy}

pub record Checks (m : Netlist) (widths : List ℕ) (f : Formula) : Type 0 where
  pub out : ℕ
  pub is_output : m.output ≡ Some out
  -- with no end of execution the output has risen by n exactly if the letters 0 to n violate already
  pub rises : InEachRun m (λ inputs run. Throughout inputs (λ n. ¬ On inputs.eot n) → Throughout inputs (λ n.
      ComesBy (run out) n ↔ WeaklyViolates widths f (take (suc n) inputs.trace)))
  -- with the end of execution in the last cycle alone it has risen by then exactly if the trace violates
  pub ends : InEachRun m (λ inputs run. (last : ℕ) → suc last ≡ length inputs.trace →
      Throughout inputs (λ n. On inputs.eot n ↔ n ≡ last) →
      ComesBy (run out) last ↔ Violates widths f inputs.trace)
