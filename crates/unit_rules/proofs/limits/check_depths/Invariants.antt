use Rattle.std.proofs.Common.{◌≡◌, ◌+◌, drop}
use Rattle.unit_rules.specs.inner.MeasureLimits.{tall_among}
use Rattle.unit_rules.proofs.limits.check_depths.Given as goal

abbrev pub invariant-loop-measure : goal.invariant-loop-measure
invariant-loop-measure l = record {
  counted : l.directive ≡ l.measure-index + 1;
  none_so_far : tall_among l.directive (drop l.measure-index l.measures) ≡ tall_among 1 l.measures;
}
