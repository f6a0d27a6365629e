use Rattle.std.proofs.Common.{length, arith}
use Rattle.unit_compile.proofs.Conditions.{well_named, well_worded, few_enough}
use Rattle.unit_compile.proofs.laws.a_unit_meets_its_conditions.Goals as goal

pub returns : goal.returns
returns c = record {
  names = λ text unit h.
      well_named unit (c.units_are_well_named.ensures.name text unit h)
      (c.units_are_well_named.ensures.signals text unit h) (c.units_are_well_named.ensures.distinct text unit h);
  words = λ text unit h.
      well_worded unit.directives (c.directives_are_well_worded.ensures.labels text unit h)
      (c.directives_are_well_worded.ensures.reports text unit h);
  expressions = λ text unit h. c.expressions_are_valid_and_shallow.ensures text unit 513 h (omega arith);
  few = λ text unit h short.
      few_enough (length unit.directives) (length text) (c.directives_are_few.ensures text unit h) short;
}
