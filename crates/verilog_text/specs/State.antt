-- What determines a cycle, and a run.
--     HasState reset eot ports registers c     these are the inputs and the registers of the cycle
--     FitsModule m ports registers             there are as many as the module has, each below its width
--     AreInputs m inputs eots                  ports that fit and a value of `mbac_eot` for each cycle
use Rattle.std.specs.Prelude.{◌≡◌, ℕ, List, map, length, All}
use Rattle.verilog_text.specs.Module.{Module, Register, Wire}
use Rattle.verilog_text.specs.Interface.{port_widths}
use Rattle.verilog_text.specs.Run.{Cycle, FitWidths}

abbrev pub register_widths : Module → List ℕ
register_widths m = map (λ (r : Register). r.width) m.registers

abbrev pub wire_widths : Module → List ℕ
wire_widths m = map (λ (w : Wire). w.width) m.wires

pub record HasState (at_reset eot : ℕ) (values state : List ℕ) (c : Cycle) : Type 0 where
  pub reset : c.reset ≡ at_reset
  pub end_of_execution : c.end_of_execution ≡ eot
  pub ports : c.ports ≡ values
  pub registers : c.registers ≡ state

pub record FitsModule (m : Module) (values state : List ℕ) : Type 0 where
  pub ports : FitWidths (port_widths m.ports) values
  pub registers : FitWidths (register_widths m) state

pub record AreInputs (m : Module) (inputs : List (List ℕ)) (eots : List ℕ) : Type 0 where
  pub fit : All (FitWidths (port_widths m.ports)) inputs
  pub count : length eots ≡ length inputs
