use Rattle.mbac_top.proofs.Due.{meets}
use Rattle.mbac_top.proofs.Ending.{front_taken}
use Rattle.mbac_top.proofs.running.run.Goals as goal

pub returns-clause-due : goal.returns-clause-due
returns-clause-due g c =
    let law = c.a_text_has_one_answer.ensures in
    rw c.end.ensures.same_cause (meets law.one law.not_both _ _ c.answer-cause.ensures.cause)

pub returns-clause-front_taken : goal.returns-clause-front_taken
returns-clause-front_taken g c = front_taken _ c.answer-cause.ensures.read
