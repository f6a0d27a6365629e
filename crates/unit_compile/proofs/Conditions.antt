-- A unit for which a text stands is one that the compiler takes.
use Rattle.std.proofs.Common.{◌≢◌, ℕ, ◌+◌, ◌<◌, ◌≤◌, ◌^◌, List, Option, None, Some, All, map, arith}
use Rattle.std.specs.List.{AllPairs}
use Rattle.std.specs.Option.{IfSome}
use Rattle.psl_model.specs.declared.names.Signal.{Signal}
use Rattle.psl_model.specs.Limits.{unit_text_limit}
use Rattle.psl_model.specs.Names.{IsIdentifier}
use Rattle.psl_model.specs.Unit.{PslUnit, Directive}
use Rattle.verilog_text.specs.Module.{IsPort}
use Rattle.mbac_compile.specs.Units as compiler
use Rattle.mbac_compile.specs.Units.{IsWellNamed, IsWellWorded}
use Rattle.unit_conditions.specs.ReportText.{IsReportText}

pub well_named : (unit : PslUnit) → IsIdentifier unit.name → All IsPort unit.signals
    → AllPairs (λ p q. p ≢ q) (map (λ (s : Signal). s.name) unit.signals) → IsWellNamed unit
well_named unit name signals distinct = record { name = name; signals = signals; distinct = distinct }

told_text : (report : Option (List ℕ)) → IfSome report IsReportText → IfSome report compiler.IsReportText
told_text None h = tt
told_text (Some text) h = record { short = h.short; printable = h.printable }

pub well_worded : (ds : List Directive) → All (λ (d : Directive). IfSome d.label IsIdentifier) ds
    → All (λ (d : Directive). IfSome d.report IsReportText) ds → All IsWellWorded ds
well_worded ds labels reports = λ k d lt. record {
  label = labels k d lt;
  report = told_text _ (reports k d lt);
}

pub few_enough : (n bytes : ℕ) → n ≤ bytes → bytes ≤ unit_text_limit → n + 1 < 2 ^ 32
few_enough n bytes h g = let e : bytes ≤ 1048576 = g in omega arith
