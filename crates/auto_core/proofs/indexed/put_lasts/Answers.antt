use Rattle.std.proofs.Common.{vec_items}
use Rattle.auto_core.proofs.Lasts.{one_more_state}
use Rattle.auto_core.proofs.indexed.put_lasts.Goals as goal

pub returns : goal.returns
returns c =
    one_more_state vec_items c.args.table.now c.args.state c.args.lasts.now.items c.push.new.self.items
    c.in_ok-places.places c.requires.before c.in_ok-push.ensures.items c.in_ok-places.ensures
