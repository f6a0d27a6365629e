-- When a list of nodes is a module's.
--     IsProgram m first nodes takes fail     the nodes are the module's, with the places of what the registers and the
--                                            output take
use Rattle.std.specs.Prelude.{◌≡◌, ℕ, ◌<◌, List, length, slice_index, slice_get, Some, All}
use Rattle.psl_model.specs.Value.{FitWidths}
use Rattle.verilog_text.specs.Module.{Module, Register, state_widths, widths_of, IsLawful}
use Rattle.verilog_text.specs.State.{register_widths}
use Rattle.verilog_cycles.specs.declared.nodes.Node.{Node}
use Rattle.verilog_cycles.specs.inner.Nodes.{Meets}
use Rattle.verilog_cycles.specs.inner.Ready.{values_at, taken, AreWires}

pub record IsProgram (m : Module) (first : ℕ) (nodes : List Node) (takes : List ℕ) (fail : ℕ) : Type 0 where
  -- of all names of the module
  pub places : List ℕ
  pub fronts : List ℕ
  pub front : length fronts ≡ first
  pub ordered : (s : ℕ) → s < first → slice_index fronts s ≡ s
  pub room : first ≡ length (state_widths m)
  pub wires : AreWires first (state_widths m) fronts m.wires (widths_of m) places nodes
  pub count : length takes ≡ length m.registers
  pub within : All (λ p. p < length nodes) takes
  pub fail_within : fail < length nodes
  pub registers : (table : List ℕ) → Meets first nodes table → FitWidths (widths_of m) (values_at table places) →
      (k : ℕ) (r : Register) → slice_get m.registers k ≡ Some r →
      slice_index table (slice_index takes k) ≡ taken (widths_of m) (values_at table places) r.width r.next
  pub output : (table : List ℕ) → Meets first nodes table → FitWidths (widths_of m) (values_at table places) →
      slice_index table fail ≡ taken (widths_of m) (values_at table places) 1 m.fail

-- what a machine keeps
pub record IsLoaded (m : Module) (first : ℕ) (nodes : List Node) (takes : List ℕ) (fail : ℕ) (state table : List ℕ) :
    Type 0 where
  pub lawful : IsLawful m
  pub program : IsProgram m first nodes takes fail
  pub size : length table ≡ length nodes
  pub registers_fit : FitWidths (register_widths m) state
