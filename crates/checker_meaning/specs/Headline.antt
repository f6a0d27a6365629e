-- What a text is for a unit: one checker for each assertion.
use Rattle.std.specs.Prelude.{◌≡◌, ℕ, suc, List, [], ◌∷◌, ◌++◌, map, length, slice_get, codes, decimal, Option, Some}
use Rattle.std.specs.Prelude.{None}
use Rattle.std.specs.List.{filter_map}
use Rattle.psl_model.specs.declared.names.Signal.{Signal}
use Rattle.psl_model.specs.Unit.{PslUnit, Directive}
use Rattle.psl_model.specs.Uses.{used_places}
use Rattle.verilog_text.specs.Module.{Module}
use Rattle.verilog_text.specs.Text.{StandsForModules}
use Rattle.checker_meaning.specs.Checks.{Checks}

abbrev pub widths_of : PslUnit → List ℕ
widths_of unit = map (λ (s : Signal). s.width) unit.signals

-- the places of the signals that a directive uses, and the signals
abbrev pub places_of : PslUnit → Directive → List ℕ
places_of unit directive = used_places (length unit.signals) directive.formula

abbrev pub ports_of : PslUnit → Directive → List Signal
ports_of unit directive = filter_map (slice_get unit.signals) (places_of unit directive)

-- a directive is called by its label, or else by its number
abbrev pub call_name : (number : ℕ) → Option (List ℕ) → List ℕ
call_name number (Some label) = label
call_name number None = decimal number

abbrev pub module_name : PslUnit → (number : ℕ) → Directive → List ℕ
module_name unit number directive = codes "mbac_" ++ unit.name ++ codes "_" ++ call_name number directive.label

-- an empty report text is none
abbrev pub shown_report : Option (List ℕ) → Option (List ℕ)
shown_report (Some []) = None
shown_report report = report

-- the module is the checker of the unit's directive with this number
pub record IsCheckerOf (unit : PslUnit) (number : ℕ) (directive : Directive) (m : Module) : Type 0 where
  pub name : m.name ≡ module_name unit number directive
  pub report : m.report ≡ shown_report directive.report
  pub ports : m.ports ≡ ports_of unit directive
  pub checks : Checks (widths_of unit) (places_of unit directive) m directive.formula

-- one module a directive, in their order, numbered from `from` on
abbrev pub AreCheckersOf : PslUnit → (from : ℕ) → List Directive → List Module → Type 0
AreCheckersOf unit from [] [] = Unit {0}
AreCheckersOf unit from (directive ∷ directives) (m ∷ modules) = IsCheckerOf unit from directive m ×
    AreCheckersOf unit (suc from) directives modules
AreCheckersOf unit from _ _ = ⊥

-- the text stands for one checker for each of the unit's directives
abbrev pub ChecksUnit : PslUnit → (text : List ℕ) → Type 0
ChecksUnit unit text = (modules : List Module) × StandsForModules text modules ×
    AreCheckersOf unit 1 unit.directives modules

-- The headline: the bytes stand for a unit, by this relation, and the text checks each unit for which they stand.
pub record IsCompiled (stands_for : List ℕ → PslUnit → Type 0) (bytes text : List ℕ) : Type 0 where
  pub is_unit : (unit : PslUnit) × stands_for bytes unit
  pub checks : (unit : PslUnit) → stands_for bytes unit → ChecksUnit unit text
