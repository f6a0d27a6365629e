use Rattle.vcd_replay.proofs.FittingRows.{rows_fit}
use Rattle.vcd_replay.proofs.laws.sampled_rows_fit.Goals as goal

pub returns : goal.returns
returns c = rows_fit
