-- What holds of each unit for which bytes stand.
use Rattle.std.proofs.Common.{◌≡◌, ◌≢◌, ℕ, ◌≤◌, None, List, All, map, length, subst, sym, arith, get_or}
use Rattle.std.proofs.lemmas.List.Elements.{All-map, All-weaker}
use Rattle.std.specs.List.{AllPairs}
use Rattle.std.specs.Option.{IfSome}
use Rattle.psl_lexer.specs.declared.kinds.Token.{Token}
use Rattle.psl_lexer.specs.Splits.{Splits}
use Rattle.psl_lexer.specs.Order.{IsSpelled}
use Rattle.psl_grammar.specs.RawUnit.{RawUnit}
use Rattle.psl_grammar.specs.Units.{IsUnit}
use Rattle.psl_model.specs.declared.names.Signal.{Signal}
use Rattle.psl_model.specs.Names.{IsIdentifier}
use Rattle.psl_model.specs.Unit.{PslUnit, Directive}
use Rattle.psl_model.specs.Valid.{IsValid}
use Rattle.psl_rewrite.specs.Conditions.{IsAllowed, FormulaHas}
use Rattle.verilog_text.specs.Module.{IsPort}
use Rattle.unit_rules.specs.Source.{Source, source}
use Rattle.unit_rules.specs.Known.{unit_signals}
use Rattle.unit_rules.specs.Limits.{depth_limit, refusal}
use Rattle.unit_rules.specs.Placed.{Placed, no_bodies, placed_unit}
use Rattle.psl_units.specs.Having.{unit_widths, HasValidExprs}
use Rattle.psl_units.specs.Trees.{Signals}
use Rattle.psl_units.specs.Unit.{directive_for, unit_for}
use Rattle.psl_units.specs.StandsForUnit.{StandsForUnit}
use Rattle.unit_conditions.specs.Labels.{HaveOwnLabels}
use Rattle.unit_conditions.specs.ReportText.{IsReportText}
use Rattle.unit_conditions.proofs.Tokens.{NameAt, TextAt}
use Rattle.unit_conditions.proofs.Items.{UnitNamed, unit_named}
use Rattle.unit_conditions.proofs.Signals.{AreSignals, unit_has_signals, as_ports, as_distinct}
use Rattle.unit_conditions.proofs.Words.{IsWorded, items_worded, labels_named, reports_told}
use Rattle.unit_conditions.proofs.Labels.{unit_apart, few_directives}
use Rattle.unit_conditions.proofs.Depths.{IsLow, unit_low, IsShallow, prop_shallow}
use Rattle.unit_conditions.proofs.Formulas.{formula_both}

abbrev pub AreSpelled : Type 0
AreSpelled = (text : List ℕ) (tokens : List Token) → Splits 0 text tokens → All (IsSpelled text) tokens

abbrev pub AreValid : Type 0
AreValid = (s : Source) (raw : RawUnit) → refusal s raw ≡ None → HasValidExprs (unit_for s raw)

-- ---- names and words

module _ (law : AreSpelled) (bytes : List ℕ) (unit : PslUnit) (h : StandsForUnit bytes unit) where
  raw_named : UnitNamed bytes h.tokens (law bytes h.tokens h.split) h.raw
  raw_named = unit_named bytes h.tokens (law bytes h.tokens h.split) h.raw h.written

  pub unit_name : IsIdentifier unit.name
  unit_name = subst (λ (u : PslUnit). IsIdentifier u.name) (sym h.meant) raw_named.name.identifier

  signals_fine : AreSignals (unit_signals (source bytes h.tokens) h.raw)
  signals_fine = unit_has_signals (source bytes h.tokens) (TextAt bytes h.tokens) h.raw raw_named.items

  pub unit_ports : All IsPort unit.signals
  unit_ports =
      subst (λ (u : PslUnit). All IsPort u.signals) (sym h.meant)
      (as_ports (unit_signals (source bytes h.tokens) h.raw) signals_fine)

  pub unit_distinct : AllPairs (λ p q. p ≢ q) (map (λ (s : Signal). s.name) unit.signals)
  unit_distinct =
      subst (λ (u : PslUnit). AllPairs (λ p q. p ≢ q) (map (λ (s : Signal). s.name) u.signals)) (sym h.meant)
      (as_distinct (unit_signals (source bytes h.tokens) h.raw) signals_fine)

  worded : All (IsWorded (NameAt bytes h.tokens) (TextAt bytes h.tokens)) (placed_unit (source bytes h.tokens) h.raw)
  worded =
      items_worded (NameAt bytes h.tokens) (TextAt bytes h.tokens) (source bytes h.tokens) no_bodies h.raw.items
      raw_named.items

  pub unit_labels : All (λ (d : Directive). IfSome d.label IsIdentifier) unit.directives
  unit_labels =
      subst (λ (u : PslUnit). All (λ (d : Directive). IfSome d.label IsIdentifier) u.directives) (sym h.meant)
      (labels_named (source bytes h.tokens) (unit_signals (source bytes h.tokens) h.raw)
      (placed_unit (source bytes h.tokens) h.raw) worded)

  pub unit_reports : All (λ (d : Directive). IfSome d.report IsReportText) unit.directives
  unit_reports =
      subst (λ (u : PslUnit). All (λ (d : Directive). IfSome d.report IsReportText) u.directives) (sym h.meant)
      (reports_told (source bytes h.tokens) (unit_signals (source bytes h.tokens) h.raw)
      (placed_unit (source bytes h.tokens) h.raw) worded)

-- ---- expressions

placed_shallow : (s : Source) (signals : Signals) (limit : ℕ) → depth_limit ≤ limit → (ds : List Placed)
    → All IsLow ds → All (λ (d : Directive). FormulaHas (IsShallow s signals limit) d.formula)
    (map (directive_for s signals) ds)
placed_shallow s signals limit least ds low =
    All-map (λ (d : Directive). FormulaHas (IsShallow s signals limit) d.formula) (directive_for s signals) ds
    (All-weaker IsLow (λ (d : Placed). FormulaHas (IsShallow s signals limit) (directive_for s signals d).formula)
    (λ d one. prop_shallow s signals limit d.body (omega arith)) ds low)

pub unit_allowed : AreValid → (bytes : List ℕ) (unit : PslUnit) (limit : ℕ) → StandsForUnit bytes unit
    → depth_limit ≤ limit
    → All (λ (d : Directive). FormulaHas (IsAllowed (unit_widths unit) limit) d.formula) unit.directives
unit_allowed law bytes unit limit h least =
    let s : Source = source bytes h.tokens in
    let whole : PslUnit = unit_for s h.raw in
    let signals : Signals = unit_signals s h.raw in
    let valid : HasValidExprs whole = law s h.raw h.lawful in
    let shallow = placed_shallow s signals limit least (placed_unit s h.raw) (unit_low s h.raw h.lawful) in
    let all : All (λ (d : Directive). FormulaHas (IsAllowed (unit_widths whole) limit) d.formula) whole.directives =
    λ k d lt. formula_both (IsValid (unit_widths whole)) (IsShallow s signals limit)
    (get_or whole.directives k d).formula (valid k d lt) (shallow k d lt) in
    subst (λ (u : PslUnit). All (λ (d : Directive). FormulaHas (IsAllowed (unit_widths u) limit) d.formula)
    u.directives) (sym h.meant) all

-- ---- labels, and how many directives there are

pub unit_labelled : (bytes : List ℕ) (unit : PslUnit) → StandsForUnit bytes unit
    → AllPairs HaveOwnLabels unit.directives
unit_labelled bytes unit h =
    subst (λ (u : PslUnit). AllPairs HaveOwnLabels u.directives) (sym h.meant)
    (unit_apart (source bytes h.tokens) (unit_signals (source bytes h.tokens) h.raw) h.raw h.lawful)

abbrev pub AreFewTokens : Type 0
AreFewTokens = (text : List ℕ) (tokens : List Token) → Splits 0 text tokens → length tokens ≤ length text

abbrev pub AreFewItems : Type 0
AreFewItems = (text : List ℕ) (tokens : List Token) (raw : RawUnit) → IsUnit text tokens raw
    → length raw.items ≤ length tokens

pub unit_few : AreFewTokens → AreFewItems → (bytes : List ℕ) (unit : PslUnit) → StandsForUnit bytes unit
    → length unit.directives ≤ length bytes
unit_few few_tokens few_items bytes unit h =
    let s : Source = source bytes h.tokens in
    let signals : Signals = unit_signals s h.raw in
    let own : length (map (directive_for s signals) (placed_unit s h.raw)) ≤ length h.raw.items =
    few_directives s signals h.raw in
    let items : length h.raw.items ≤ length h.tokens = few_items bytes h.tokens h.raw h.written in
    let tokens : length h.tokens ≤ length bytes = few_tokens bytes h.tokens h.split in
    subst (λ (u : PslUnit). length u.directives ≤ length bytes) (sym h.meant) (omega arith)
