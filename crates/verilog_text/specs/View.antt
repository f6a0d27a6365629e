-- From a module of the code to the plain one.
--     module_of m      the module, its expressions as plain trees
use Rattle.std.specs.Prelude.{map}
use Rattle.psl_model.specs.View.{expr_of}
use Rattle.verilog_text.specs.declared.module.Module as code
use Rattle.verilog_text.specs.declared.module.RegDecl.{RegDecl}
use Rattle.verilog_text.specs.declared.module.WireDecl.{WireDecl}
use Rattle.verilog_text.specs.Module.{Module, Register, Wire}

abbrev pub register_of : RegDecl → Register
register_of r = record { width = r.width; initial = r.init; next = expr_of r.next }

abbrev pub wire_of : WireDecl → Wire
wire_of w = record { width = w.width; value = expr_of w.value }

abbrev pub module_of : code.Module → Module
module_of m = record {
  name = m.name;
  report = m.report;
  ports = m.ports;
  registers = map register_of m.regs;
  wires = map wire_of m.wires;
  fail = expr_of m.fail;
}
