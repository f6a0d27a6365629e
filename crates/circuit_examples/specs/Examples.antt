-- Formulas whose circuits are tried.
--     IsExample f      f is of the forms that are built, over four signals of one bit, and its sequences are small
use Rattle.std.specs.Prelude.{List, ℕ, [], ◌∷◌}
use Rattle.psl_rewrite.specs.Base.{Base}
use Rattle.formula_limits.specs.Places.{AreSmall}
use Rattle.property_circuits.specs.Conditions.{IsBuilt, HasGuards}

abbrev pub signal_widths : List ℕ
signal_widths = 1 ∷ 1 ∷ 1 ∷ 1 ∷ []

abbrev pub IsWritten : Base → Type 0
IsWritten f = IsBuilt f × HasGuards signal_widths f

abbrev pub IsExample : Base → Type 0
IsExample f = IsWritten f × AreSmall f
