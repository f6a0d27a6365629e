use Rattle.std.proofs.lemmas.Result.{IfOk-weaker}
use Rattle.sequence_tables.proofs.Tables.{no_copies_stand}
use Rattle.sequence_tables.proofs.building.powered.Goals as goal

pub returns-then-count-eq0 : goal.returns-then-count-eq0
returns-then-count-eq0 c =
    IfOk-weaker c.nothing.result _ _
    (λ t made. no_copies_stand c.args.body.now t c.args.count c.if-count-eq0.true made)
    c.nothing.ensures
