use Rattle.vcd_replay.proofs.FirstFails.{HasRun}
use Rattle.vcd_replay.proofs.verdicts.first_fail.Given as goal

abbrev pub invariant-loop-cycle : goal.invariant-loop-cycle
invariant-loop-cycle l = HasRun l.fn.machine l.machine l.trace l.from l.end l.cycle
