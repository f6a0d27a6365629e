use Rattle.std.proofs.Common.{vec_items}
use Rattle.auto_core.proofs.Lasts.{known_at}
use Rattle.auto_core.proofs.indexed.IndexedTable.lasts.Goals as goal

pub returns : goal.returns
returns c =
    known_at vec_items c.self.inside.table c.args.self.now c.self.inside.lasts.items c.args.state c.index.result.now
    c.as_slice.result.now c.self.view_is c.self.invariant c.requires c.index.ensures c.as_slice.ensures.value
