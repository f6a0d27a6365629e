use Rattle.std.proofs.Common.{sym}
use Rattle.verilog_cycles.proofs.Shifts.{right_by}
use Rattle.verilog_cycles.proofs.arithmetic.shifted_right.Goals as goal

pub returns-else-by-lt64 : goal.returns-else-by-lt64
returns-else-by-lt64 c = sym (right_by c.args.x c.args.by 64 c.ranges.x.fits c.if-by-lt64.false)
