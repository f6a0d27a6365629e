use Rattle.std.proofs.Common.{◌*◌, ◌^◌, sym, ◌∙◌, arith}
use Rattle.verilog_cycles.proofs.Shifts.{left_by}
use Rattle.verilog_cycles.proofs.Wrapping.{cut_twice}
use Rattle.verilog_cycles.proofs.arithmetic.shifted_left.Goals as goal

pub returns-then-by-from : goal.returns-then-by-from
returns-then-by-from c =
    c.cut.ensures ∙ cut_twice (c.args.x * 2 ^ c.args.by) c.args.context (omega arith)

pub returns-else-by-from : goal.returns-else-by-from
returns-else-by-from c =
    sym (left_by c.args.x c.args.by c.args.context (omega (arith, c.if-by-from.false, c.from.ensures)))
