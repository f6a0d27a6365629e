-- Where nothing refuses a unit, its expressions are valid.
use Rattle.std.proofs.Common.{◌≡◌, ℕ, Bool, true, false, cond, Option, None, Some, unwrap_or, option_map, List}
use Rattle.std.proofs.Common.{[], ◌∷◌, ◌++◌, All, map, refl, ap, sym, subst}
use Rattle.std.proofs.lemmas.List.{append-nil}
use Rattle.std.proofs.lemmas.List.Elements.{All-nil, All-cons}
use Rattle.std.specs.List.{flat_map}
use Rattle.std.specs.Map.{lookup}
use Rattle.indexmap.specs.IndexMap.{insert_entry}
use Rattle.psl_lexer.specs.declared.kinds.Kind.{Kind}
use Rattle.psl_lexer.specs.declared.kinds.Kind.TheVariants.{Word, Mark}
use Rattle.psl_lexer.specs.declared.kinds.Key.TheVariants as key
use Rattle.psl_lexer.specs.declared.kinds.Mark.TheVariants as mark
use Rattle.psl_grammar.specs.RawExpr.{RawExpr}
use Rattle.psl_grammar.specs.RawSere as raw_sere
use Rattle.psl_grammar.specs.RawProp as raw_prop
use Rattle.psl_grammar.specs.RawUnit.{RawItem, RawUnit, clock, wire, sequence, property, assert}
use Rattle.psl_model.specs.declared.names.Signal.{Signal}
use Rattle.psl_model.specs.Expr.{Expr}
use Rattle.psl_model.specs.Sere as sere
use Rattle.psl_model.specs.Formula as formula
use Rattle.psl_model.specs.Unit.{Directive}
use Rattle.psl_model.specs.Valid.{IsValid}
use Rattle.unit_rules.specs.Source.{Source, kind_at, bytes_at}
use Rattle.unit_rules.specs.Sites.{Site, phrase, directive, expr_sites, count_sites, sere_sites, on_sites, prop_sites}
use Rattle.unit_rules.specs.Sites.{label_sites, item_sites, unit_sites}
use Rattle.unit_rules.specs.Known.{Known, nothing, same_name, after_site, known_after, unit_signals}
use Rattle.unit_rules.specs.Limits.{refusal}
use Rattle.unit_rules.specs.Placed.{Bodies, Placed, no_bodies, placed_sere, placed_prop, bodies_after, placed_item}
use Rattle.unit_rules.specs.Placed.{placed_items, placed_unit}
use Rattle.psl_units.specs.Trees.{Signals, expr_for, low_count, high_count, repeated, joined, sere_for, prefixed}
use Rattle.psl_units.specs.Trees.{combined, next_for, first_cycle, last_cycle, formula_for}
use Rattle.psl_units.specs.Unit.{signal_for, directive_for, unit_for}
use Rattle.psl_units.specs.Having.{SereHas, FormulaHas, unit_widths, HasValidExprs}
use Rattle.psl_units.proofs.NoFaults.{no_faults}
use Rattle.psl_units.proofs.Found.{widths_of}
use Rattle.psl_units.proofs.ValidExprs.{Grown, Clean, clean_front, clean_back, clean_site, clean_rest, expr_valid}
use Rattle.psl_units.proofs.ValidExprs.{true_valid, false_valid}

-- ---- what is made of parts has what they have

module _ (P : Expr → Type 0) where
  repeated_has : (kind : Kind) (r : sere.Sere) (low : ℕ) (high : Option ℕ) → SereHas P r
      → SereHas P (repeated kind r low high)
  repeated_has (Mark mark.GotoOpen) (sere.bool x) low high h = h
  repeated_has (Mark mark.EqualRepeatOpen) (sere.bool x) low high h = h
  repeated_has kind r low high h = h

  joined_has : (kind : Kind) (r t : sere.Sere) → SereHas P r → SereHas P t → SereHas P (joined kind r t)
  joined_has (Mark mark.Colon) r t h g = (h, g)
  joined_has (Mark mark.Or) r t h g = (h, g)
  joined_has (Mark mark.AndAnd) r t h g = (h, g)
  joined_has (Mark mark.And) r t h g = (h, g)
  joined_has (Word key.Within) r t h g = (h, g)
  joined_has kind r t h g = (h, g)

  prefixed_has : (kind : Kind) (f : formula.Formula) → FormulaHas P f → FormulaHas P (prefixed kind f)
  prefixed_has (Word key.Always) f h = h
  prefixed_has (Word key.Never) f h = h
  prefixed_has (Word key.EventuallyStrong) f h = h
  prefixed_has kind f h = h

  combined_has : (kind : Kind) (f g : formula.Formula) → FormulaHas P f → FormulaHas P g
      → FormulaHas P (combined kind f g)
  combined_has (Mark mark.AndAnd) f g h i = (h, i)
  combined_has (Mark mark.OrOr) f g h i = (h, i)
  combined_has (Mark mark.Arrow) f g h i = (h, i)
  combined_has (Mark mark.DoubleArrow) f g h i = (h, i)
  combined_has (Word key.Until) f g h i = (h, i)
  combined_has (Word key.UntilStrong) f g h i = (h, i)
  combined_has (Word key.UntilOverlapping) f g h i = (h, i)
  combined_has (Word key.UntilStrongOverlapping) f g h i = (h, i)
  combined_has (Word key.Before) f g h i = (h, i)
  combined_has (Word key.BeforeStrong) f g h i = (h, i)
  combined_has (Word key.BeforeOverlapping) f g h i = (h, i)
  combined_has kind f g h i = (h, i)

-- ---- entries by name

abbrev pub AllValues : {V : Type 0} → (P : V → Type 0) → List (List ℕ × V) → Type 0
AllValues P [] = Unit {0}
AllValues P (entry ∷ entries) = P entry.1 × AllValues P entries

put_value : {V : Type 0} (P : V → Type 0) (es : List (List ℕ × V)) (k : List ℕ) (v : V) → AllValues P es → P v
    → AllValues P (insert_entry same_name es k v)
put_value P [] k v h p = (p, tt)
put_value P (e ∷ es) k v h p = by (same_name k e.0) (put_value P es k v h.1 p)
  where
    by : (b : Bool) → AllValues P (insert_entry same_name es k v)
        → AllValues P (cond b ((e.0, v) ∷ es) (e ∷ insert_entry same_name es k v))
    by true rest = (p, h.1)
    by false rest = (h.0, rest)

found_value : {V : Type 0} (P : V → Type 0) (test : List ℕ → Bool) (es : List (List ℕ × V)) (d : V)
    → AllValues P es → P d → P (unwrap_or (lookup test es) d)
found_value P test [] d h p = p
found_value P test (e ∷ es) d h p = by (test e.0) (found_value P test es d h.1 p)
  where
    by : (b : Bool) → P (unwrap_or (lookup test es) d) → P (unwrap_or (cond b (Some e.1) (lookup test es)) d)
    by true rest = h.0
    by false rest = rest

-- ---- sequences, formulas and items

module _ (s : Source) (signals : Signals) where
  abbrev pub IsFine : Expr → Type 0
  IsFine x = IsValid (widths_of signals) x

  abbrev pub SereFine : raw_sere.RawSere → Type 0
  SereFine r = SereHas (IsValid (widths_of signals)) (sere_for s signals r)

  abbrev pub PropFine : raw_prop.RawProp → Type 0
  PropFine f = FormulaHas (IsValid (widths_of signals)) (formula_for s signals f)

  -- what names stand for is fine
  pub record FineBodies (bodies : Bodies) : Type 0 where
    pub sequences : AllValues SereFine bodies.sequences
    pub properties : AllValues PropFine bodies.properties

  sere_fine : (bodies : Bodies) (k : Known) (r : raw_sere.RawSere) → FineBodies bodies
      → Clean s signals k (sere_sites r) → SereFine (placed_sere s bodies r)
  sere_fine bodies k (raw_sere.bool x) b h = expr_valid s signals k x h
  sere_fine bodies k (raw_sere.named token) b h =
      found_value SereFine (same_name (bytes_at s token)) bodies.sequences (raw_sere.named token) b.sequences
      (false_valid (widths_of signals))
  sere_fine bodies k (raw_sere.lone m low high) b h = true_valid (widths_of signals)
  sere_fine bodies k (raw_sere.repeat r m low high) b h =
      repeated_has (IsValid (widths_of signals)) (kind_at s m) (sere_for s signals (placed_sere s bodies r))
      (low_count s m low) (high_count s m low high)
      (sere_fine bodies k r b (clean_front s signals k (sere_sites r) (count_sites m low high) h))
  sere_fine bodies k (raw_sere.join m r t) b h =
      joined_has (IsValid (widths_of signals)) (kind_at s m) (sere_for s signals (placed_sere s bodies r))
      (sere_for s signals (placed_sere s bodies t))
      (sere_fine bodies k r b (clean_front s signals k (sere_sites r) (sere_sites t) h))
      (sere_fine bodies (known_after s k (sere_sites r)) t b
      (clean_back s signals k (sere_sites r) (sere_sites t) h))

  next_fine : (kind : Kind) (k : Known) (on : Option RawExpr) (low high : ℕ) (f : formula.Formula)
      → Clean s signals k (on_sites on) → FormulaHas (IsValid (widths_of signals)) f
      → FormulaHas (IsValid (widths_of signals)) (next_for kind (option_map (expr_for s signals) on) low high f)
  next_fine kind k None low high f h g = g
  next_fine kind k (Some x) low high f h g = (expr_valid s signals k x h, g)

  prop_fine : (bodies : Bodies) (k : Known) (f : raw_prop.RawProp) → FineBodies bodies
      → Clean s signals k (prop_sites f) → PropFine (placed_prop s bodies f)
  prop_fine bodies k (raw_prop.bool x) b h = expr_valid s signals k x h
  prop_fine bodies k (raw_prop.named token) b h =
      found_value PropFine (same_name (bytes_at s token)) bodies.properties (raw_prop.named token) b.properties
      (false_valid (widths_of signals))
  prop_fine bodies k (raw_prop.seq r strong) b h = sere_fine bodies k r b h
  prop_fine bodies k (raw_prop.prefix word f) b h =
      prefixed_has (IsValid (widths_of signals)) (kind_at s word) (formula_for s signals (placed_prop s bodies f))
      (prop_fine bodies k f b h)
  prop_fine bodies k (raw_prop.next word on low high f) b h =
      let back = clean_back s signals k (on_sites on) (count_sites word low high ++ prop_sites f) h in
      let m : Known = known_after s k (on_sites on) in
      next_fine (kind_at s word) k on (first_cycle s low) (last_cycle s low high)
      (formula_for s signals (placed_prop s bodies f))
      (clean_front s signals k (on_sites on) (count_sites word low high ++ prop_sites f) h)
      (prop_fine bodies (known_after s m (count_sites word low high)) f b
      (clean_back s signals m (count_sites word low high) (prop_sites f) back))
  prop_fine bodies k (raw_prop.binary m f g) b h =
      combined_has (IsValid (widths_of signals)) (kind_at s m) (formula_for s signals (placed_prop s bodies f))
      (formula_for s signals (placed_prop s bodies g))
      (prop_fine bodies k f b (clean_front s signals k (prop_sites f) (prop_sites g) h))
      (prop_fine bodies (known_after s k (prop_sites f)) g b
      (clean_back s signals k (prop_sites f) (prop_sites g) h))
  prop_fine bodies k (raw_prop.suffix m r f) b h = (
    sere_fine bodies k r b (clean_front s signals k (sere_sites r) (prop_sites f) h),
    prop_fine bodies (known_after s k (sere_sites r)) f b
        (clean_back s signals k (sere_sites r) (prop_sites f) h),
  )
  prop_fine bodies k (raw_prop.abort f x) b h = (
    prop_fine bodies k f b (clean_front s signals k (prop_sites f) (expr_sites x) h),
    expr_valid s signals (known_after s k (prop_sites f)) x
        (clean_back s signals k (prop_sites f) (expr_sites x) h),
  )

  bodies_fine : (bodies : Bodies) (k : Known) (item : RawItem) → FineBodies bodies
      → Clean s signals k (item_sites item) → FineBodies (bodies_after s bodies item)
  bodies_fine bodies k (clock token) b h = b
  bodies_fine bodies k (wire range names) b h = b
  bodies_fine bodies k (sequence token r) b h = record {
    sequences = put_value SereFine bodies.sequences (bytes_at s token) (placed_sere s bodies r) b.sequences
        (sere_fine bodies (after_site s k (phrase token)) r b
        (clean_rest s signals k (phrase token) (sere_sites r) h));
    properties = b.properties;
  }
  bodies_fine bodies k (property token f) b h = record {
    sequences = b.sequences;
    properties = put_value PropFine bodies.properties (bytes_at s token) (placed_prop s bodies f) b.properties
        (prop_fine bodies (after_site s k (phrase token)) f b
        (clean_rest s signals k (phrase token) (prop_sites f) h));
  }
  bodies_fine bodies k (assert word tag f report) b h = b

  abbrev pub AllFine : List Placed → Type 0
  AllFine [] = Unit {0}
  AllFine (d ∷ ds) = PropFine d.body × AllFine ds

  fine_joined : (xs ys : List Placed) → AllFine xs → AllFine ys → AllFine (xs ++ ys)
  fine_joined [] ys h g = g
  fine_joined (x ∷ xs) ys h g = (h.0, fine_joined xs ys h.1 g)

  item_fine : (bodies : Bodies) (k : Known) (item : RawItem) → FineBodies bodies
      → Clean s signals k (item_sites item) → AllFine (placed_item s bodies item)
  item_fine bodies k (clock token) b h = tt
  item_fine bodies k (wire range names) b h = tt
  item_fine bodies k (sequence token r) b h = tt
  item_fine bodies k (property token f) b h = tt
  item_fine bodies k (assert word tag f report) b h =
      let m : Known = known_after s k (label_sites tag) in
      let back = clean_back s signals k (label_sites tag) (directive word ∷ prop_sites f) h in (
        prop_fine bodies (after_site s m (directive word)) f b
            (clean_rest s signals m (directive word) (prop_sites f) back),
        tt,
      )

  items_fine : (bodies : Bodies) (k : Known) (items : List RawItem) → FineBodies bodies
      → Clean s signals k (flat_map item_sites items) → AllFine (placed_items s bodies items)
  items_fine bodies k [] b h = tt
  items_fine bodies k (item ∷ items) b h =
      let here = clean_front s signals k (item_sites item) (flat_map item_sites items) h in
      fine_joined (placed_item s bodies item) (placed_items s (bodies_after s bodies item) items)
      (item_fine bodies k item b here)
      (items_fine (bodies_after s bodies item) (known_after s k (item_sites item)) items
      (bodies_fine bodies k item b here)
      (clean_back s signals k (item_sites item) (flat_map item_sites items) h))

  abbrev pub DirectiveFine : Directive → Type 0
  DirectiveFine d = FormulaHas (IsValid (widths_of signals)) d.formula

  directives_fine : (ds : List Placed) → AllFine ds → All DirectiveFine (map (directive_for s signals) ds)
  directives_fine [] h = All-nil DirectiveFine
  directives_fine (d ∷ ds) h =
      All-cons DirectiveFine (directive_for s signals d) (map (directive_for s signals) ds) h.0
      (directives_fine ds h.1)

same_widths : (signals : Signals) → widths_of signals ≡ map (λ (signal : Signal). signal.width) (map signal_for signals)
same_widths [] = refl
same_widths (x ∷ xs) = ap (λ ws. x.1 ∷ ws) (same_widths xs)

pub unit_valid : (s : Source) (raw : RawUnit) → refusal s raw ≡ None → HasValidExprs (unit_for s raw)
unit_valid s raw p =
    let signals : Signals = unit_signals s raw in
    let clean : Clean s signals nothing (unit_sites raw) = record {
      none = no_faults s raw p;
      grown = record { more = []; listed = sym (append-nil signals) };
    } in
    let fine : AllFine s signals (placed_unit s raw) =
    items_fine s signals no_bodies nothing raw.items (record { sequences = tt; properties = tt }) clean in
    let P : List ℕ → Type 0 = λ ws. All (λ (d : Directive). FormulaHas (IsValid ws) d.formula)
    (map (directive_for s signals) (placed_unit s raw)) in
    subst P (same_widths signals) (directives_fine s signals (placed_unit s raw) fine)
