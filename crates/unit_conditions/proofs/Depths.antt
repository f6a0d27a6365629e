-- A directive that isn't too tall has no deeper expressions than levels.
use Rattle.std.proofs.Common.{◌≡◌, ℕ, ◌+◌, ◌≤◌, max, Bool, true, false, cond, Option, None, Some, option_map, List, []}
use Rattle.std.proofs.Common.{◌∷◌, All, refl, arith, nat_lt}
use Rattle.std.proofs.lemmas.Bool.Decides.{nat_tests}
use Rattle.std.proofs.lemmas.List.Elements.{All-nil, All-cons}
use Rattle.psl_lexer.specs.declared.kinds.Kind.{Kind}
use Rattle.psl_lexer.specs.declared.kinds.Kind.TheVariants.{Word, Mark}
use Rattle.psl_lexer.specs.declared.kinds.Key.TheVariants as key
use Rattle.psl_lexer.specs.declared.kinds.Mark.TheVariants as mark
use Rattle.psl_grammar.specs.RawExpr.{RawExpr, name, literal, unary, binary, choice}
use Rattle.psl_grammar.specs.RawSere as raw_sere
use Rattle.psl_grammar.specs.RawProp as raw_prop
use Rattle.psl_grammar.specs.RawUnit.{RawUnit}
use Rattle.psl_model.specs.Expr as e
use Rattle.psl_model.specs.Expr.{Expr}
use Rattle.psl_model.specs.Sere as sere
use Rattle.psl_model.specs.Formula as formula
use Rattle.psl_model.specs.Valid.{parentheses}
use Rattle.psl_rewrite.specs.Conditions.{SereHas, FormulaHas}
use Rattle.unit_rules.specs.declared.errors.UnitError.{UnitError}
use Rattle.unit_rules.specs.declared.errors.UnitError.TheVariants.{TooTall}
use Rattle.unit_rules.specs.Source.{Source, kind_at, bytes_at, is_number, is_sized, is_true_word}
use Rattle.unit_rules.specs.Numbers.{number_at, sized_width, sized_value}
use Rattle.unit_rules.specs.Faults.{unit_faults}
use Rattle.unit_rules.specs.Placed.{Placed, placed_unit}
use Rattle.unit_rules.specs.Measures.{most, expr_depth, on_depth, sere_depth, prop_depth}
use Rattle.unit_rules.specs.Limits.{depth_limit, first_tall, first_large, or_else, limit_fault, refusal}
use Rattle.psl_units.specs.Trees.{Signals, signal_at, true_expr, false_expr, named_expr, literal_expr, expr_for}
use Rattle.psl_units.specs.Trees.{low_count, high_count, repeated, joined, sere_for, prefixed, combined, next_for}
use Rattle.psl_units.specs.Trees.{first_cycle, last_cycle, formula_for}
use Rattle.std.specs.List.{slice_get}
use Rattle.std.specs.Prelude.{min}

-- ---- no directive is too tall

first_none : (first other : Option UnitError) → or_else first other ≡ None → first ≡ None
first_none None other h = refl
first_none (Some fault) other h = absurd (cc h)

other_none : (first other : Option UnitError) → or_else first other ≡ None → other ≡ None
other_none None other h = h
other_none (Some fault) other h = absurd (cc h)

not_above : (n : ℕ) → nat_lt depth_limit n ≡ false → n ≤ depth_limit
not_above n h = grind (arith, nat_tests)

abbrev pub IsLow : Placed → Type 0
IsLow d = prop_depth d.body ≤ depth_limit

none_tall : (number : ℕ) (ds : List Placed) → first_tall number ds ≡ None → All IsLow ds
none_tall number [] h = All-nil IsLow
none_tall number (d ∷ ds) h = by (nat_lt depth_limit (prop_depth d.body)) refl h (λ r. none_tall (number + 1) ds r)
  where
    by : (b : Bool) → nat_lt depth_limit (prop_depth d.body) ≡ b
        → cond b (Some (TooTall number (min (prop_depth d.body) most))) (first_tall (number + 1) ds) ≡ None
        → (first_tall (number + 1) ds ≡ None → All IsLow ds) → All IsLow (d ∷ ds)
    by true q r rest = absurd (cc r)
    by false q r rest = All-cons IsLow d ds (not_above (prop_depth d.body) q) (rest r)

pub unit_low : (s : Source) (raw : RawUnit) → refusal s raw ≡ None → All IsLow (placed_unit s raw)
unit_low s raw h =
    none_tall 1 (placed_unit s raw)
    (first_none (first_tall 1 (placed_unit s raw)) (first_large 1 0 (placed_unit s raw))
    (other_none (slice_get (unit_faults s raw) 0) (limit_fault s raw.items) h))

-- ---- what is made of parts has what they have

module _ (P : Expr → Type 0) where
  repeated_has : (kind : Kind) (r : sere.Sere) (low : ℕ) (high : Option ℕ) → SereHas P r
      → SereHas P (repeated kind r low high)
  repeated_has (Mark mark.GotoOpen) (sere.bool x) low high h = h
  repeated_has (Mark mark.EqualRepeatOpen) (sere.bool x) low high h = h
  repeated_has kind r low high h = h

  joined_has : (kind : Kind) (r t : sere.Sere) → SereHas P r → SereHas P t → SereHas P (joined kind r t)
  joined_has (Mark mark.Colon) r t h g = (h, g)
  joined_has (Mark mark.Or) r t h g = (h, g)
  joined_has (Mark mark.AndAnd) r t h g = (h, g)
  joined_has (Mark mark.And) r t h g = (h, g)
  joined_has (Word key.Within) r t h g = (h, g)
  joined_has kind r t h g = (h, g)

  prefixed_has : (kind : Kind) (f : formula.Formula) → FormulaHas P f → FormulaHas P (prefixed kind f)
  prefixed_has (Word key.Always) f h = h
  prefixed_has (Word key.Never) f h = h
  prefixed_has (Word key.EventuallyStrong) f h = h
  prefixed_has kind f h = h

  combined_has : (kind : Kind) (f g : formula.Formula) → FormulaHas P f → FormulaHas P g
      → FormulaHas P (combined kind f g)
  combined_has (Mark mark.AndAnd) f g h i = (h, i)
  combined_has (Mark mark.OrOr) f g h i = (h, i)
  combined_has (Mark mark.Arrow) f g h i = (h, i)
  combined_has (Mark mark.DoubleArrow) f g h i = (h, i)
  combined_has (Word key.Until) f g h i = (h, i)
  combined_has (Word key.UntilStrong) f g h i = (h, i)
  combined_has (Word key.UntilOverlapping) f g h i = (h, i)
  combined_has (Word key.UntilStrongOverlapping) f g h i = (h, i)
  combined_has (Word key.Before) f g h i = (h, i)
  combined_has (Word key.BeforeStrong) f g h i = (h, i)
  combined_has (Word key.BeforeOverlapping) f g h i = (h, i)
  combined_has kind f g h i = (h, i)

-- ---- expressions

named_flat : (s : Source) (place : ℕ) (select : Option (ℕ × Option ℕ)) → parentheses (named_expr s place select) ≡ 0
named_flat s place None = refl
named_flat s place (Some (high, None)) = refl
named_flat s place (Some (high, Some low)) = refl

literal_flat : (s : Source) (token : ℕ) → parentheses (literal_expr s token) ≡ 0
literal_flat s token = by (is_number (kind_at s token)) (is_sized (kind_at s token)) (is_true_word (kind_at s token))
  where
    by : (a b c : Bool) → parentheses (cond a (e.plain (number_at s token))
        (cond b (e.sized (sized_width (bytes_at s token)) (sized_value (bytes_at s token)))
        (cond c true_expr false_expr))) ≡ 0
    by true b c = refl
    by false true c = refl
    by false false true = refl
    by false false false = refl

one_more : (a n : ℕ) → a ≤ n → a + 1 ≤ 1 + n
one_more a n h = omega arith

two_more : (a b m n : ℕ) → a ≤ m → b ≤ n → max a b + 1 ≤ 1 + max m n
two_more a b m n h g = omega arith

three_more : (a b c l m n : ℕ) → a ≤ l → b ≤ m → c ≤ n → max a (max b c) + 1 ≤ 1 + max l (max m n)
three_more a b c l m n h g i = omega arith

flat : (a n : ℕ) → a ≡ 0 → a ≤ n
flat a n h = omega arith

module _ (s : Source) (signals : Signals) where
  expr_low : (x : RawExpr) → parentheses (expr_for s signals x) ≤ expr_depth x
  expr_low (name token select) =
      flat (parentheses (named_expr s (signal_at s signals token) select)) 1
      (named_flat s (signal_at s signals token) select)
  expr_low (literal token) = flat (parentheses (literal_expr s token)) 1 (literal_flat s token)
  expr_low (unary m a) = one_more (parentheses (expr_for s signals a)) (expr_depth a) (expr_low a)
  expr_low (binary m a b) =
      two_more (parentheses (expr_for s signals a)) (parentheses (expr_for s signals b)) (expr_depth a) (expr_depth b)
      (expr_low a) (expr_low b)
  expr_low (choice m test first second) =
      three_more (parentheses (expr_for s signals test)) (parentheses (expr_for s signals first))
      (parentheses (expr_for s signals second)) (expr_depth test) (expr_depth first) (expr_depth second)
      (expr_low test) (expr_low first) (expr_low second)

-- ---- sequences and formulas

within : (a n limit : ℕ) → a ≤ n → n ≤ limit → a ≤ limit
within a n limit h g = omega arith

below_one : (n limit : ℕ) → 1 + n ≤ limit → n ≤ limit
below_one n limit h = omega arith

left_below : (m n limit : ℕ) → 1 + max m n ≤ limit → m ≤ limit
left_below m n limit h = omega arith

right_below : (m n limit : ℕ) → 1 + max m n ≤ limit → n ≤ limit
right_below m n limit h = omega arith

module _ (s : Source) (signals : Signals) (limit : ℕ) where
  abbrev pub IsShallow : Expr → Type 0
  IsShallow x = parentheses x ≤ limit

  expr_shallow : (x : RawExpr) → expr_depth x ≤ limit → IsShallow (expr_for s signals x)
  expr_shallow x h = within (parentheses (expr_for s signals x)) (expr_depth x) limit (expr_low s signals x) h

  false_shallow : IsShallow false_expr
  false_shallow = omega arith

  true_shallow : IsShallow true_expr
  true_shallow = omega arith

  sere_shallow : (r : raw_sere.RawSere) → sere_depth r ≤ limit → SereHas IsShallow (sere_for s signals r)
  sere_shallow (raw_sere.bool x) h = expr_shallow x h
  sere_shallow (raw_sere.named token) h = false_shallow
  sere_shallow (raw_sere.lone m low high) h = true_shallow
  sere_shallow (raw_sere.repeat r m low high) h =
      repeated_has IsShallow (kind_at s m) (sere_for s signals r) (low_count s m low) (high_count s m low high)
      (sere_shallow r (below_one (sere_depth r) limit h))
  sere_shallow (raw_sere.join m r t) h =
      joined_has IsShallow (kind_at s m) (sere_for s signals r) (sere_for s signals t)
      (sere_shallow r (left_below (sere_depth r) (sere_depth t) limit h))
      (sere_shallow t (right_below (sere_depth r) (sere_depth t) limit h))

  next_shallow : (kind : Kind) (on : Option RawExpr) (low high : ℕ) (f : formula.Formula) → on_depth on ≤ limit
      → FormulaHas IsShallow f → FormulaHas IsShallow (next_for kind (option_map (expr_for s signals) on) low high f)
  next_shallow kind None low high f h g = g
  next_shallow kind (Some x) low high f h g = (expr_shallow x h, g)

  pub prop_shallow : (f : raw_prop.RawProp) → prop_depth f ≤ limit → FormulaHas IsShallow (formula_for s signals f)
  prop_shallow (raw_prop.bool x) h = expr_shallow x h
  prop_shallow (raw_prop.named token) h = false_shallow
  prop_shallow (raw_prop.seq r strong) h = sere_shallow r h
  prop_shallow (raw_prop.prefix word f) h =
      prefixed_has IsShallow (kind_at s word) (formula_for s signals f)
      (prop_shallow f (below_one (prop_depth f) limit h))
  prop_shallow (raw_prop.next word on low high f) h =
      next_shallow (kind_at s word) on (first_cycle s low) (last_cycle s low high) (formula_for s signals f)
      (left_below (on_depth on) (prop_depth f) limit h)
      (prop_shallow f (right_below (on_depth on) (prop_depth f) limit h))
  prop_shallow (raw_prop.binary m f g) h =
      combined_has IsShallow (kind_at s m) (formula_for s signals f) (formula_for s signals g)
      (prop_shallow f (left_below (prop_depth f) (prop_depth g) limit h))
      (prop_shallow g (right_below (prop_depth f) (prop_depth g) limit h))
  prop_shallow (raw_prop.suffix m r f) h = (
    sere_shallow r (left_below (sere_depth r) (prop_depth f) limit h),
    prop_shallow f (right_below (sere_depth r) (prop_depth f) limit h),
  )
  prop_shallow (raw_prop.abort f x) h = (
    prop_shallow f (left_below (prop_depth f) (expr_depth x) limit h),
    expr_shallow x (right_below (prop_depth f) (expr_depth x) limit h),
  )
