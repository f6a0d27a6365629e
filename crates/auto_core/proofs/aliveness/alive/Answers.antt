use Rattle.auto_core.proofs.Marking.{marked_alive}
use Rattle.auto_core.proofs.aliveness.alive.Goals as goal

pub returns : goal.returns
returns c = record {
  each = c.in_ok-spread.ensures.size;
  alive = λ state below. marked_alive c.args.table.now c.spread.new.marked.items c.in_ok-spread.ensures state;
}
