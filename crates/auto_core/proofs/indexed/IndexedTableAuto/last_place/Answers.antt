use Rattle.auto_core.proofs.Lasts.{place_of_last}
use Rattle.auto_core.proofs.indexed.IndexedTableAuto.last_place.Goals as goal

pub returns-clause-within : goal.returns-clause-within
returns-clause-within c =
    (place_of_last c.args.self.now c.args.state c.lasts.result.now c.lasts.ensures c.args.rank c.requires.there).0

pub returns-clause-same : goal.returns-clause-same
returns-clause-same c =
    (place_of_last c.args.self.now c.args.state c.lasts.result.now c.lasts.ensures c.args.rank c.requires.there).1
