use Rattle.std.proofs.Common.{◌+◌}
use Rattle.psl_rewrite.specs.Conditions.{IsAllowed}
use Rattle.psl_rewrite.proofs.Conditions.{allowed, base_has, base_counts}
use Rattle.psl_rewrite.proofs.Sequences.{sequences_kept}
use Rattle.psl_rewrite.proofs.laws.a_base_form_keeps_the_conditions.Goals as goal

pub returns-clause-expressions : goal.returns-clause-expressions
returns-clause-expressions c f widths limit h =
    base_has (IsAllowed widths limit) (IsAllowed widths (limit + 3)) (allowed widths limit) f h

pub returns-clause-counts : goal.returns-clause-counts
returns-clause-counts c = base_counts

pub returns-clause-sequences : goal.returns-clause-sequences
returns-clause-sequences c = sequences_kept
