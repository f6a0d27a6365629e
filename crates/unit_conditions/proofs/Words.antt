-- The labels and report texts of a unit's directives.
use Rattle.std.proofs.Common.{◌≡◌, ℕ, ◌+◌, ◌-◌, Option, None, Some, option_map, List, [], ◌∷◌, ◌++◌, length, map, All}
use Rattle.std.proofs.Common.{ap, sym, subst, ◌∙◌, arith, take, slice_range, length-append}
use Rattle.std.proofs.Math.Seq.{take-append_seam}
use Rattle.std.proofs.lemmas.List.Elements.{All-nil, All-cons, All-append, All-map, All-weaker}
use Rattle.std.specs.Option.{IfSome}
use Rattle.psl_model.specs.Names.{IsIdentifier, IsUsableName}
use Rattle.psl_model.specs.Unit.{Directive}
use Rattle.psl_lexer.specs.Shapes.{IsText}
use Rattle.psl_grammar.specs.RawUnit as u
use Rattle.psl_grammar.specs.RawUnit.{RawItem}
use Rattle.unit_rules.specs.Source.{Source, bytes_at}
use Rattle.unit_rules.specs.Placed.{Bodies, Placed, bodies_after, placed_prop, placed_item, placed_items}
use Rattle.psl_units.specs.Trees.{Signals}
use Rattle.psl_units.specs.Unit.{report_at, directive_for}
use Rattle.unit_conditions.specs.ReportText.{IsReportText}
use Rattle.unit_conditions.proofs.Items.{IfThere, ItemNamed, ItemsNamed}

-- ---- a text without its quotes

module _ (inside : List ℕ) where
  abbrev quoted : List ℕ
  quoted = 34 ∷ (inside ++ 34 ∷ [])

  inner_length : length quoted - 1 - 1 ≡ length inside
  inner_length = omega (arith, length-append inside (34 ∷ []))

  unquoted : slice_range quoted 1 (length quoted - 1) ≡ inside
  unquoted =
      ap (λ n. take n (inside ++ 34 ∷ [])) inner_length ∙ take-append_seam inside (34 ∷ [])

text_inside : (bytes : List ℕ) → IsText bytes → IsReportText (slice_range bytes 1 (length bytes - 1))
text_inside bytes h =
    let same : slice_range bytes 1 (length bytes - 1) ≡ h.inside =
    ap (λ (xs : List ℕ). slice_range xs 1 (length xs - 1)) h.parts ∙ unquoted h.inside in
    subst IsReportText (sym same) (record { short = h.short; printable = h.printable })

-- ---- directives

module _ (N T : ℕ → Type 0) where
  pub record IsWorded (d : Placed) : Type 0 where
    pub label : IfThere N d.label
    pub report : IfThere T d.report

  item_worded : (x : Source) (bodies : Bodies) (item : RawItem) → ItemNamed N T item
      → All IsWorded (placed_item x bodies item)
  item_worded x bodies (u.clock n) h = All-nil IsWorded
  item_worded x bodies (u.wire range names) h = All-nil IsWorded
  item_worded x bodies (u.RawItem.sequence n r) h = All-nil IsWorded
  item_worded x bodies (u.RawItem.property n f) h = All-nil IsWorded
  item_worded x bodies (u.assert word tag f report) h =
      All-cons IsWorded (record { label = tag; report = report; body = placed_prop x bodies f }) []
      (record { label = h.0; report = h.2 }) (All-nil IsWorded)

  pub items_worded : (x : Source) (bodies : Bodies) (items : List RawItem) → ItemsNamed N T items
      → All IsWorded (placed_items x bodies items)
  items_worded x bodies [] h = All-nil IsWorded
  items_worded x bodies (item ∷ items) h =
      All-append IsWorded (placed_item x bodies item) (placed_items x (bodies_after x bodies item) items)
      (item_worded x bodies item h.0) (items_worded x (bodies_after x bodies item) items h.1)

module _ (x : Source) (signals : Signals) where
  abbrev pub Usable : ℕ → Type 0
  Usable n = IsUsableName (bytes_at x n)

  abbrev pub Told : ℕ → Type 0
  Told n = IsText (bytes_at x n)

  label_named : (tag : Option ℕ) → IfThere Usable tag → IfSome (option_map (bytes_at x) tag) IsIdentifier
  label_named None h = tt
  label_named (Some n) h = h.identifier

  report_told : (report : Option ℕ) → IfThere Told report → IfSome (option_map (report_at x) report) IsReportText
  report_told None h = tt
  report_told (Some n) h = text_inside (bytes_at x n) h

  pub labels_named : (ds : List Placed) → All (IsWorded Usable Told) ds
      → All (λ (d : Directive). IfSome d.label IsIdentifier) (map (directive_for x signals) ds)
  labels_named ds h =
      All-map (λ (d : Directive). IfSome d.label IsIdentifier) (directive_for x signals) ds
      (All-weaker (IsWorded Usable Told) (λ (d : Placed). IfSome (option_map (bytes_at x) d.label) IsIdentifier)
      (λ d w. label_named d.label w.label) ds h)

  pub reports_told : (ds : List Placed) → All (IsWorded Usable Told) ds
      → All (λ (d : Directive). IfSome d.report IsReportText) (map (directive_for x signals) ds)
  reports_told ds h =
      All-map (λ (d : Directive). IfSome d.report IsReportText) (directive_for x signals) ds
      (All-weaker (IsWorded Usable Told) (λ (d : Placed). IfSome (option_map (report_at x) d.report) IsReportText)
      (λ d w. report_told d.report w.report) ds h)
