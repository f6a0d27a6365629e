use Rattle.psl_meaning.specs.Word.{tops}
use Rattle.psl_meaning.proofs.Always.{refuted_by_zero, refuted_exactly}
use Rattle.psl_meaning.proofs.laws.always_is_weakly_violated.Goals as goal

pub returns : goal.returns
returns c widths e trace = (refuted_exactly widths e trace tops tt, refuted_by_zero widths e trace tops)
