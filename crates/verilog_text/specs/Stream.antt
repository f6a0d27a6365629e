-- What it is that a module does what a netlist does.
--     KeepsStream m M        each run of the module from reset gives a stream of the netlist's output
--     HasRegistersOf m M     its registers are those of the netlist, in their order
use Rattle.std.specs.Prelude.{◌≡◌, ℕ, ◌<◌, List, map, length, slice_index, slice_get, Some, IsSomeAnd, All}
use Rattle.circuit_core.specs.Netlist as net
use Rattle.circuit_core.specs.Netlist.{Netlist}
use Rattle.circuit_core.specs.Run.{Run, Inputs, IsRunOf}
use Rattle.verilog_text.specs.Module.{Module, Register}
use Rattle.verilog_text.specs.Run.{Cycle, FitWidths, IsRunFromReset, fail_stream}

-- the inputs of a module as those of a netlist, whose signals are the ports
abbrev pub inputs_of : (trace : List (List ℕ)) → (eots : List ℕ) → Inputs
inputs_of trace eots = record { trace = trace; eot = λ n. slice_index eots n }

-- the netlist has a run over the inputs in which its output is this stream, with a value for each cycle
pub record IsStreamOf (m : Netlist) (inputs : Inputs) (stream : List ℕ) : Type 0 where
  pub run : Run
  pub is_run : IsRunOf m inputs run
  pub count : length stream ≡ length inputs.trace
  pub output : IsSomeAnd m.output (λ out. (n : ℕ) → n < length inputs.trace → slice_get stream n ≡ Some (run out n))

-- over each trace of values that fit and each stream of `mbac_eot`, in each run from reset
abbrev pub KeepsStream : Netlist → Module → Type 0
KeepsStream m M = (trace : List (List ℕ)) (eots : List ℕ) (reset : Cycle) (cycles : List Cycle) →
    All (FitWidths m.widths) trace → All (λ eot. eot < 2) eots → IsRunFromReset M trace eots reset cycles →
    IsStreamOf m (inputs_of trace eots) (fail_stream cycles)

-- as many registers, with the same widths and reset values
abbrev pub HasRegistersOf : Netlist → Module → Type 0
HasRegistersOf m M = map {B = ℕ × ℕ} (λ (r : Register). (r.width, r.initial)) M.registers
    ≡ map {B = ℕ × ℕ} (λ (x : net.Register). (x.width, x.initial)) m.registers
