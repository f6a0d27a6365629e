-- Raw trees whose numbers fit the trees of a unit.
use Rattle.std.specs.Prelude.{◌≡◌, ℕ, ◌<◌, ◌≤◌, ◌^◌, true, Option, None, Some}
use Rattle.psl_grammar.specs.RawExpr.{RawExpr, name, literal, unary, binary, choice}
use Rattle.psl_grammar.specs.RawSere as sere
use Rattle.psl_grammar.specs.RawProp as prop
use Rattle.psl_grammar.specs.RawUnit.{RawItem, clock, wire, sequence, property, assert}
use Rattle.unit_rules.specs.Source.{Source, kind_at, bytes_at, is_number, is_sized}
use Rattle.unit_rules.specs.Numbers.{number_at, sized_width, sized_value}

abbrev pub IsSmall : Source → ℕ → Type 0
IsSmall s token = number_at s token < 2 ^ 32

abbrev pub IsSmallSelect : Source → Option (ℕ × Option ℕ) → Type 0
IsSmallSelect s None = Unit {0}
IsSmallSelect s (Some (high, None)) = IsSmall s high
IsSmallSelect s (Some (high, Some low)) = IsSmall s high × IsSmall s low

pub record IsSmallLiteral (s : Source) (token : ℕ) : Type 0 where
  pub decimal : is_number (kind_at s token) ≡ true → number_at s token < 2 ^ 32
  pub width : is_sized (kind_at s token) ≡ true → sized_width (bytes_at s token) ≤ 64
  pub value : is_sized (kind_at s token) ≡ true → sized_value (bytes_at s token) < 2 ^ 64

abbrev pub IsSmallLow : Source → Option ℕ → Type 0
IsSmallLow s None = Unit {0}
IsSmallLow s (Some token) = IsSmall s token

-- `inf` is no number
abbrev pub IsSmallHigh : Source → Option ℕ → Type 0
IsSmallHigh s None = Unit {0}
IsSmallHigh s (Some token) = is_number (kind_at s token) ≡ true → IsSmall s token

-- without a first count the second is not looked at
abbrev pub AreSmallCounts : Source → (low high : Option ℕ) → Type 0
AreSmallCounts s None high = Unit {0}
AreSmallCounts s (Some low) high = IsSmall s low × IsSmallHigh s high

abbrev pub ExprFits : Source → RawExpr → Type 0
ExprFits s (name token select) = IsSmallSelect s select
ExprFits s (literal token) = IsSmallLiteral s token
ExprFits s (unary mark a) = ExprFits s a
ExprFits s (binary mark a b) = ExprFits s a × ExprFits s b
ExprFits s (choice mark test first second) = ExprFits s test × ExprFits s first × ExprFits s second

abbrev pub SereFits : Source → sere.RawSere → Type 0
SereFits s (sere.bool e) = ExprFits s e
SereFits s (sere.named token) = Unit {0}
SereFits s (sere.lone mark low high) = AreSmallCounts s low high
SereFits s (sere.repeat r mark low high) = SereFits s r × AreSmallCounts s low high
SereFits s (sere.join mark r t) = SereFits s r × SereFits s t

abbrev pub OnFits : Source → Option RawExpr → Type 0
OnFits s None = Unit {0}
OnFits s (Some e) = ExprFits s e

abbrev pub PropFits : Source → prop.RawProp → Type 0
PropFits s (prop.bool e) = ExprFits s e
PropFits s (prop.named token) = Unit {0}
PropFits s (prop.seq r strong) = SereFits s r
PropFits s (prop.prefix word f) = PropFits s f
PropFits s (prop.next word on low high f) = OnFits s on × AreSmallCounts s low high × PropFits s f
PropFits s (prop.binary mark f g) = PropFits s f × PropFits s g
PropFits s (prop.suffix mark r f) = SereFits s r × PropFits s f
PropFits s (prop.abort f e) = PropFits s f × ExprFits s e

abbrev pub ItemFits : Source → RawItem → Type 0
ItemFits s (clock token) = Unit {0}
ItemFits s (wire range names) = Unit {0}
ItemFits s (sequence token r) = SereFits s r
ItemFits s (property token f) = PropFits s f
ItemFits s (assert word tag f report) = PropFits s f
