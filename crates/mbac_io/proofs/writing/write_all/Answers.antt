use Rattle.std.proofs.Common.{rules}
use Rattle.mbac_io.proofs.DeviceLemmas.{appends-further}
use Rattle.mbac_io.proofs.writing.write_all.Goals as goal

pub loop-written-preserved : goal.loop-written-preserved
loop-written-preserved g c = record {
  within = search rules;
  appended = appends-further _ _ _ _ _ _ c.loop-written.invariant.appended c.in_ok-written.ensures.appended;
  never_falls = search rules;
  untouched = search rules;
}
