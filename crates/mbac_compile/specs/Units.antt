-- What units of the language give to the compiler.
--     IsWellNamed unit             its name and its signals
--     IsWellWorded directive       its label and its report text
--     IsWellFormed unit directive  its expressions
use Rattle.std.specs.Prelude.{◌≢◌, ◌≤◌, ℕ, List, map, length, IfSome, IsTrue, All, AllPairs}
use Rattle.std.specs.List.{list_all}
use Rattle.psl_model.specs.declared.names.Signal.{Signal}
use Rattle.psl_model.specs.Limits.{name_limit}
use Rattle.psl_model.specs.Names.{IsIdentifier, is_report_byte}
use Rattle.psl_model.specs.Unit.{PslUnit, Directive}
use Rattle.psl_rewrite.specs.Conditions.{IsAllowed, FormulaHas}
use Rattle.verilog_text.specs.Module.{IsPort}
use Rattle.checker_meaning.specs.Headline.{widths_of}

-- the signals have usable names that differ, and widths of vectors
pub record IsWellNamed (unit : PslUnit) : Type 0 where
  pub name : IsIdentifier unit.name
  pub signals : All IsPort unit.signals
  pub distinct : AllPairs (λ p q. p ≢ q) (map (λ (s : Signal). s.name) unit.signals)

-- a report text of a unit, which may be empty
pub record IsReportText (text : List ℕ) : Type 0 where
  pub short : length text ≤ name_limit
  pub printable : IsTrue (list_all is_report_byte text)

pub record IsWellWorded (directive : Directive) : Type 0 where
  pub label : IfSome directive.label IsIdentifier
  pub report : IfSome directive.report IsReportText

-- the most parentheses that are open at any place of an expression's text
abbrev pub expression_parentheses_limit : ℕ
expression_parentheses_limit = 513

-- the expressions are valid for the unit's signals, and not too deep
abbrev pub IsWellFormed : PslUnit → Directive → Type 0
IsWellFormed unit directive = FormulaHas (IsAllowed (widths_of unit) expression_parentheses_limit) directive.formula
