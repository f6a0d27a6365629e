-- The unit that a raw tree stands for, with its sequences and properties put in place.
use Rattle.std.specs.Prelude.{ℕ, ◌-◌, option_map, List, map, length, slice_range}
use Rattle.psl_model.specs.declared.names.Signal.{Signal}
use Rattle.psl_model.specs.Unit.{Directive, PslUnit}
use Rattle.psl_grammar.specs.RawUnit.{RawUnit}
use Rattle.unit_rules.specs.Source.{Source, bytes_at}
use Rattle.unit_rules.specs.Known.{unit_signals}
use Rattle.unit_rules.specs.Placed.{Placed, placed_unit}
use Rattle.psl_units.specs.Trees.{Signals, formula_for}

-- a report without its quotes; one without a byte between them is empty
abbrev pub report_at : Source → ℕ → List ℕ
report_at s token = slice_range (bytes_at s token) 1 (length (bytes_at s token) - 1)

abbrev pub directive_for : Source → Signals → Placed → Directive
directive_for s signals d = record {
  label = option_map (bytes_at s) d.label;
  report = option_map (report_at s) d.report;
  formula = formula_for s signals d.body;
}

abbrev pub signal_for : List ℕ × ℕ → Signal
signal_for entry = record { name = entry.0; width = entry.1 }

-- The signals stand in the order of their first places, as declared or used. A directive is an `assert`; what nothing
-- uses leaves no trace but its signals.
abbrev pub unit_for : Source → RawUnit → PslUnit
unit_for s raw = record {
  name = bytes_at s raw.name;
  signals = map signal_for (unit_signals s raw);
  directives = map (directive_for s (unit_signals s raw)) (placed_unit s raw);
}
