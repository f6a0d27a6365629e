use Rattle.std.proofs.Common.{◌≡◌, map, take, length, vec_items}
use Rattle.auto_core.specs.inner.Searching.{HasSources}
use Rattle.auto_core.proofs.aliveness.sources_of.Given as goal

abbrev pub invariant-loop-edge : goal.invariant-loop-edge
invariant-loop-edge l = record {
  size : length l.rows.items ≡ l.fn.count;
  sources : HasSources (take l.edge-index l.edges) (map vec_items l.rows.items);
}
