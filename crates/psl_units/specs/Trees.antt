-- The expression, the sequence and the formula that a raw tree stands for, over a text with its tokens and the signals
-- of the unit. The names of sequences and properties are put in place already.
use Rattle.std.specs.Prelude.{ℕ, Bool, true, false, if◌then◌else◌, Option, None, Some, option_map, List}
use Rattle.std.specs.List.{position_or_len}
use Rattle.std.specs.Map.{keys_of}
use Rattle.psl_lexer.specs.declared.kinds.Kind.{Kind}
use Rattle.psl_lexer.specs.declared.kinds.Kind.TheVariants.{Word, Mark}
use Rattle.psl_lexer.specs.declared.kinds.Key.TheVariants as key
use Rattle.psl_lexer.specs.declared.kinds.Mark.TheVariants as mark
use Rattle.psl_grammar.specs.RawExpr as raw
use Rattle.psl_grammar.specs.RawSere as raw_sere
use Rattle.psl_grammar.specs.RawProp as raw_prop
use Rattle.psl_model.specs.Expr.{Expr, whole, bit, part, plain, sized, unary, binary, choice}
use Rattle.psl_model.specs.Sere as sere
use Rattle.psl_model.specs.Formula as formula
use Rattle.unit_rules.specs.Source.{Source, kind_at, bytes_at, is_number, is_sized, is_true_word}
use Rattle.unit_rules.specs.Numbers.{number_at, sized_width, sized_value}
use Rattle.unit_rules.specs.Operators.{un_op_of, bin_op_of, reach_of, is_strong_next}
use Rattle.unit_rules.specs.Known.{same_name}

-- ---- expressions

-- the signals of a unit in the order of their numbers, each with its width
abbrev pub Signals : Type 0
Signals = List (List ℕ × ℕ)

-- the number of the signal that a token names
abbrev pub signal_at : Source → Signals → (token : ℕ) → ℕ
signal_at s signals token = position_or_len (same_name (bytes_at s token)) (keys_of signals)

-- `true` and `false`
abbrev pub true_expr : Expr
true_expr = sized 1 1

abbrev pub false_expr : Expr
false_expr = sized 1 0

abbrev pub named_expr : Source → (signal : ℕ) → (select : Option (ℕ × Option ℕ)) → Expr
named_expr s signal None = whole signal
named_expr s signal (Some (high, None)) = bit signal (number_at s high)
named_expr s signal (Some (high, Some low)) = part signal (number_at s high) (number_at s low)

abbrev pub literal_expr : Source → (token : ℕ) → Expr
literal_expr s token =
    if is_number (kind_at s token) then plain (number_at s token)
    else if is_sized (kind_at s token) then sized (sized_width (bytes_at s token)) (sized_value (bytes_at s token))
    else if is_true_word (kind_at s token) then true_expr
    else false_expr

abbrev pub expr_for : Source → Signals → raw.RawExpr → Expr
expr_for s signals (raw.name token select) = named_expr s (signal_at s signals token) select
expr_for s signals (raw.literal token) = literal_expr s token
expr_for s signals (raw.unary m a) = unary (un_op_of (kind_at s m)) (expr_for s signals a)
expr_for s signals (raw.binary m a b) = binary (bin_op_of (kind_at s m)) (expr_for s signals a) (expr_for s signals b)
expr_for s signals (raw.choice m test first second) =
    choice (expr_for s signals test) (expr_for s signals first) (expr_for s signals second)

-- ---- sequences

-- what a repetition says without counts: `[*]` any number of times, `[+]` at least once, `[->]` exactly once
abbrev pub default_low : Kind → ℕ
default_low (Mark mark.RepeatOpen) = 0
default_low _ = 1

abbrev pub default_high : Kind → Option ℕ
default_high (Mark mark.GotoOpen) = Some 1
default_high _ = None

-- the lower end of a repetition
abbrev pub low_count : Source → (m : ℕ) → (low : Option ℕ) → ℕ
low_count s m None = default_low (kind_at s m)
low_count s m (Some low) = number_at s low

-- its upper end: a single count is both ends, and `inf` is none
abbrev pub high_count : Source → (m : ℕ) → (low high : Option ℕ) → Option ℕ
high_count s m None high = default_high (kind_at s m)
high_count s m (Some low) None = Some (number_at s low)
high_count s m (Some low) (Some high) = if is_number (kind_at s high) then Some (number_at s high) else None

-- `[->` and `[=` repeat a Boolean alone, `[*` and `[+]` any sequence
abbrev pub repeated : Kind → sere.Sere → (low : ℕ) → (high : Option ℕ) → sere.Sere
repeated (Mark mark.GotoOpen) (sere.bool e) low high = sere.goto e low high
repeated (Mark mark.EqualRepeatOpen) (sere.bool e) low high = sere.equal e low high
repeated kind r low high = sere.repeat r low high

-- the last line is `;`
abbrev pub joined : Kind → sere.Sere → sere.Sere → sere.Sere
joined (Mark mark.Colon) r t = sere.fuse r t
joined (Mark mark.Or) r t = sere.or r t
joined (Mark mark.AndAnd) r t = sere.both r t
joined (Mark mark.And) r t = sere.meet r t
joined (Word key.Within) r t = sere.within r t
joined kind r t = sere.concat r t

-- A repetition that stands alone repeats `true`. A name that no item before declares stands in no unit: it is `false`.
abbrev pub sere_for : Source → Signals → raw_sere.RawSere → sere.Sere
sere_for s signals (raw_sere.bool e) = sere.bool (expr_for s signals e)
sere_for s signals (raw_sere.named token) = sere.bool false_expr
sere_for s signals (raw_sere.lone m low high) =
    sere.repeat (sere.bool true_expr) (low_count s m low) (high_count s m low high)
sere_for s signals (raw_sere.repeat r m low high) =
    repeated (kind_at s m) (sere_for s signals r) (low_count s m low) (high_count s m low high)
sere_for s signals (raw_sere.join m r t) = joined (kind_at s m) (sere_for s signals r) (sere_for s signals t)

-- ---- formulas

-- the last line is `!`
abbrev pub prefixed : Kind → formula.Formula → formula.Formula
prefixed (Word key.Always) f = formula.always f
prefixed (Word key.Never) f = formula.never f
prefixed (Word key.EventuallyStrong) f = formula.eventually f
prefixed kind f = formula.not f

-- `until` and `before` in their four forms: strong or weak, with overlap or without; the last line is `before!_`
abbrev pub combined : Kind → formula.Formula → formula.Formula → formula.Formula
combined (Mark mark.AndAnd) f g = formula.and f g
combined (Mark mark.OrOr) f g = formula.or f g
combined (Mark mark.Arrow) f g = formula.implies f g
combined (Mark mark.DoubleArrow) f g = formula.iff f g
combined (Word key.Until) f g = formula.until false false f g
combined (Word key.UntilStrong) f g = formula.until true false f g
combined (Word key.UntilOverlapping) f g = formula.until false true f g
combined (Word key.UntilStrongOverlapping) f g = formula.until true true f g
combined (Word key.Before) f g = formula.before false false f g
combined (Word key.BeforeStrong) f g = formula.before true false f g
combined (Word key.BeforeOverlapping) f g = formula.before false true f g
combined kind f g = formula.before true true f g

-- whether a mark is `|=>`, and not `|->`
abbrev pub is_later : Kind → Bool
is_later (Mark mark.SuffixNext) = true
is_later _ = false

-- the counts of `next` and `next_event`: 1 where none is written, and a single one is both ends
abbrev pub first_cycle : Source → (low : Option ℕ) → ℕ
first_cycle s None = 1
first_cycle s (Some low) = number_at s low

-- `inf` doesn't stand here
abbrev pub last_cycle : Source → (low high : Option ℕ) → ℕ
last_cycle s None high = 1
last_cycle s (Some low) None = number_at s low
last_cycle s (Some low) (Some high) = if is_number (kind_at s high) then number_at s high else number_at s low

abbrev pub next_for : Kind → (on : Option Expr) → (low high : ℕ) → formula.Formula → formula.Formula
next_for kind None low high f = formula.next (is_strong_next kind) (reach_of kind) low high f
next_for kind (Some on) low high f = formula.event on (is_strong_next kind) (reach_of kind) low high f

-- A sequence is strong where it is written with `!`. A name that no item before declares stands in no unit: it is
-- `false`.
abbrev pub formula_for : Source → Signals → raw_prop.RawProp → formula.Formula
formula_for s signals (raw_prop.bool e) = formula.bool (expr_for s signals e)
formula_for s signals (raw_prop.named token) = formula.bool false_expr
formula_for s signals (raw_prop.seq r strong) = formula.seq (sere_for s signals r) strong
formula_for s signals (raw_prop.prefix word f) = prefixed (kind_at s word) (formula_for s signals f)
formula_for s signals (raw_prop.next word on low high f) =
    next_for (kind_at s word) (option_map (expr_for s signals) on) (first_cycle s low) (last_cycle s low high)
    (formula_for s signals f)
formula_for s signals (raw_prop.binary m f g) =
    combined (kind_at s m) (formula_for s signals f) (formula_for s signals g)
formula_for s signals (raw_prop.suffix m r f) =
    formula.suffix (sere_for s signals r) (is_later (kind_at s m)) (formula_for s signals f)
formula_for s signals (raw_prop.abort f e) = formula.abort (formula_for s signals f) (expr_for s signals e)
