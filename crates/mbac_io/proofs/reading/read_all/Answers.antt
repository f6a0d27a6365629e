use Rattle.std.proofs.Common.{◌++◌, take}
use Rattle.mbac_io.proofs.DeviceLemmas.{takes-takes}
use Rattle.mbac_io.proofs.reading.read_all.Goals as goal

-- The piece that passed the limit, or for which there was no memory, came off the front too.
pub returns-then-limit-len-clause-front_taken : goal.returns-then-limit-len-clause-front_taken
returns-then-limit-len-clause-front_taken g c = (
  c.loop-bytes.bytes.items ++ take c.in_ok-count.count c.read.new.buffer,
  takes-takes _ _ _ _ _ c.loop-bytes.invariant.taken c.in_ok-count.ensures.taken,
)

pub returns-in_err-extend_from_slice-clause-front_taken : goal.returns-in_err-extend_from_slice-clause-front_taken
returns-in_err-extend_from_slice-clause-front_taken g c = (
  c.loop-bytes.bytes.items ++ take c.in_ok-count.count c.read.new.buffer,
  takes-takes _ _ _ _ _ c.loop-bytes.invariant.taken c.in_ok-count.ensures.taken,
)
