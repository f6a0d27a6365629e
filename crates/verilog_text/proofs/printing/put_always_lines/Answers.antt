use Rattle.verilog_text.specs.Module.{names_of}
use Rattle.verilog_text.specs.Text.{always_line}
use Rattle.verilog_text.specs.View.{register_of, module_of}
use Rattle.verilog_text.proofs.Growth.{extends_twice}
use Rattle.verilog_text.proofs.Numbered.{gain_one}
use Rattle.verilog_text.proofs.printing.put_always_lines.Goals as goal

pub loop-number-preserved : goal.loop-number-preserved
loop-number-preserved c = (
  gain_one (always_line (names_of (module_of c.args.checker.now))) register_of c.args.registers.now c.loop-number.number
      c.index-registers-number.result
      c.args.out.now.items c.loop-number.out.items c.put_always.new.out.items
      c.loop-number-test.true c.index-registers-number.is c.loop-number.invariant.0 c.in_ok-put_always.ensures.text,
  extends_twice _ _ _ c.loop-number.invariant.1 c.in_ok-put_always.ensures.kept,
)
