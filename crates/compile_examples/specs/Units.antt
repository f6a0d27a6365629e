-- The unit of these tests: its one directive names the second of its two signals alone.
use Rattle.std.specs.Prelude.{[], ◌∷◌, Some, List, codes}
use Rattle.psl_model.specs.declared.names.Signal.{Signal}
use Rattle.psl_model.specs.Expr.{bit}
use Rattle.psl_model.specs.Formula.{Formula, bool, implies, always}
use Rattle.psl_model.specs.Unit.{Directive, PslUnit}

abbrev pub signals : List Signal
signals = record { name = codes "go"; width = 1 } ∷ record { name = codes "cnt"; width = 4 } ∷ []

-- always (cnt[3] -> cnt[0])
abbrev pub odd_from_eight : Formula
odd_from_eight = always (implies (bool (bit 1 3)) (bool (bit 1 0)))

abbrev pub directive : Directive
directive = record { label = Some (codes "late"); report = Some (codes "no odd count"); formula = odd_from_eight }

abbrev pub whole_unit : PslUnit
whole_unit = record { name = codes "u"; signals = signals; directives = directive ∷ [] }
