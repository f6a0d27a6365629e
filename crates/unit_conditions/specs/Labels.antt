-- No two directives of a unit have the same label.
use Rattle.std.specs.Prelude.{◌≢◌, ℕ, List, Option, Some}
use Rattle.psl_model.specs.Unit.{Directive}

abbrev pub Differ : Option (List ℕ) → Option (List ℕ) → Type 0
Differ (Some label) (Some other) = label ≢ other
Differ _ _ = Unit {0}

abbrev pub HaveOwnLabels : Directive → Directive → Type 0
HaveOwnLabels earlier later = Differ earlier.label later.label
