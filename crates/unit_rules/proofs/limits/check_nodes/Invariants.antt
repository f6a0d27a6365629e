use Rattle.std.proofs.Common.{◌≡◌, ◌+◌, ◌≤◌, drop}
use Rattle.unit_rules.specs.Limits.{node_limit}
use Rattle.unit_rules.specs.inner.MeasureLimits.{large_among}
use Rattle.unit_rules.proofs.limits.check_nodes.Given as goal

abbrev pub invariant-loop-measure : goal.invariant-loop-measure
invariant-loop-measure l = record {
  counted : l.directive ≡ l.measure-index + 1;
  few : l.nodes ≤ node_limit;
  none_so_far : large_among l.directive l.nodes (drop l.measure-index l.measures) ≡ large_among 1 0 l.measures;
}
