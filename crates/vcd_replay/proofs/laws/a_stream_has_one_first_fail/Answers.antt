use Rattle.vcd_replay.proofs.OneFirstFail.{one_first_fail}
use Rattle.vcd_replay.proofs.laws.a_stream_has_one_first_fail.Goals as goal

pub returns : goal.returns
returns c = one_first_fail
