use Rattle.std.proofs.Common.{◌≡◌, take, map}
use Rattle.unit_rules.specs.Source.{source}
use Rattle.unit_rules.specs.Sites.{declared}
use Rattle.unit_rules.specs.inner.Judging.{visit_all}
use Rattle.unit_rules.specs.inner.WalkView.{state_of}
use Rattle.unit_rules.proofs.walking.walk_names.Given as goal

abbrev pub invariant-loop-name : goal.invariant-loop-name
invariant-loop-name l = state_of l.walk ≡ visit_all (source l.text l.tokens) (state_of l.initial.walk)
    (map (λ token. declared token l.range) (take l.name-index l.names))
