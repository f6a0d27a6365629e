use Rattle.std.proofs.Common.{sym}
use Rattle.psl_model.proofs.Shifts.{right_by}
use Rattle.psl_model.proofs.arithmetic.shifted_right.Goals as goal

pub returns-else-by-lt128 : goal.returns-else-by-lt128
returns-else-by-lt128 c = sym (right_by c.args.x c.args.by 128 c.ranges.x.fits c.if-by-lt128.false)
