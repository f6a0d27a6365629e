-- A module whose names, wires, registers and output were made ready.
use Rattle.std.proofs.Common.{◌≡◌, ℕ, List, length, sym, ◌∙◌, arith}
use Rattle.verilog_text.specs.Module.{Module, state_widths, widths_of}
use Rattle.verilog_cycles.specs.declared.nodes.Node.{Node}
use Rattle.verilog_cycles.specs.inner.Ready.{IsLine, AreFront, AreWires, AreNexts}
use Rattle.verilog_cycles.specs.inner.Program.{IsProgram}
use Rattle.verilog_cycles.proofs.Names.{wires_grown}
use Rattle.verilog_cycles.proofs.Ready.{grows_on, meets_front, within_grown}

pub program_is : (m : Module) (first : ℕ) (n0 n1 n2 n3 : List Node) (fronts ps takes : List ℕ) (fail : ℕ) →
    AreFront (state_widths m) fronts n0 → first ≡ length n0 →
    AreWires first (state_widths m) fronts m.wires (widths_of m) ps n1 →
    AreNexts first (widths_of m) ps m.registers takes n1 n2 → IsLine first (widths_of m) ps n2 n3 1 m.fail fail →
    IsProgram m first n3 takes fail
program_is m first n0 n1 n2 n3 fronts ps takes fail front first_is wires nexts line = record {
  places = ps;
  fronts = fronts;
  front = front.count ∙ sym front.size ∙ sym first_is;
  ordered = λ s lt. front.ordered s (omega (arith, first_is, front.size));
  room = first_is ∙ front.size;
  wires = wires_grown first (state_widths m) fronts m.wires (widths_of m) ps n1 n3 wires (grows_on n1 n2 n3
      nexts.grows line.grows) line.tape;
  count = nexts.count;
  within = within_grown takes n2 n3 line.grows nexts.within;
  fail_within = line.within;
  registers = λ table met fit. nexts.means table (meets_front first n2 n3 table line.grows met) fit;
  output = λ table met fit. line.means table met fit;
}
