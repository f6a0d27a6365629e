-- Which base formulas circuits are made of.
--     IsBuilt f            each operator of f is one that is built, and no range ends before it begins
--     HasGuards widths f   its expressions are guards over signals of these widths
use Rattle.std.specs.Prelude.{List, ℕ, ◌≤◌}
use Rattle.psl_rewrite.specs.Base.{Base, bool, and, or_bool, implies, always, next, next_all, next_some, until, event}
use Rattle.psl_rewrite.specs.Base.{event_some, seq, eventually, suffix, abort}
use Rattle.psl_rewrite.specs.Conditions.{BaseHas}
use Rattle.circuit_core.specs.WellMade.{IsGuard}

abbrev pub IsBuilt : Base → Type 0
IsBuilt (bool e) = Unit {0}
IsBuilt (and f g) = IsBuilt f × IsBuilt g
IsBuilt (or_bool e f) = IsBuilt f
IsBuilt (implies e f) = IsBuilt f
IsBuilt (always f) = IsBuilt f
IsBuilt (next s k f) = IsBuilt f
IsBuilt (next_all s low high f) = (low ≤ high) × IsBuilt f
IsBuilt (next_some s low high e) = ⊥
IsBuilt (until s f e) = IsBuilt f
IsBuilt (event s on low high f) = ⊥
IsBuilt (event_some s on low high e) = ⊥
IsBuilt (seq r s) = ⊥
IsBuilt (eventually r) = ⊥
IsBuilt (suffix r f) = IsBuilt f
IsBuilt (abort f on) = ⊥

abbrev pub HasGuards : (widths : List ℕ) → Base → Type 0
HasGuards widths f = BaseHas (IsGuard widths) f
