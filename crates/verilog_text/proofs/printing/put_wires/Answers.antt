use Rattle.verilog_text.specs.Module.{names_of}
use Rattle.verilog_text.specs.Text.{wire_line}
use Rattle.verilog_text.specs.View.{wire_of, module_of}
use Rattle.verilog_text.proofs.Growth.{extends_twice}
use Rattle.verilog_text.proofs.Numbered.{gain_one}
use Rattle.verilog_text.proofs.printing.put_wires.Goals as goal

pub loop-number-preserved : goal.loop-number-preserved
loop-number-preserved c = (
  gain_one (wire_line (names_of (module_of c.args.checker.now))) wire_of c.args.wires.now c.loop-number.number
      c.index-wires-number.result
      c.args.out.now.items c.loop-number.out.items c.put_wire.new.out.items
      c.loop-number-test.true c.index-wires-number.is c.loop-number.invariant.0 c.in_ok-put_wire.ensures.text,
  extends_twice _ _ _ c.loop-number.invariant.1 c.in_ok-put_wire.ensures.kept,
)
