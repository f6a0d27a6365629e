use Rattle.std.proofs.Common.{refl, ap}
use Rattle.std.specs.Prelude.{Err}
use Rattle.mbac_top.proofs.Ending.{may_have-some, may_have-long}
use Rattle.mbac_top.proofs.running.compile_slot.Goals as goal

pub returns-in-Err-Failed-clause-cause : goal.returns-in-Err-Failed-clause-cause
returns-in-Err-Failed-clause-cause g c =
    let is = c.in-Err-Failed in
    (refl, may_have-some _ _ is.ensures.front_taken, is.ensures.failed_rose (ap (λ e. Err e) is.field-0-is))

pub returns-in-Err-TooLong-clause-cause : goal.returns-in-Err-TooLong-clause-cause
returns-in-Err-TooLong-clause-cause g c =
    let is = c.in-Err-TooLong in
    (refl, may_have-long _ _ _ (is.ensures.too_long_only (ap (λ e. Err e) is.field-0-is)))
