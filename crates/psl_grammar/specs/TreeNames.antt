-- What holds of the names of a raw tree, by what each of them stands for: a signal, a sequence or a property.
use Rattle.std.specs.Prelude.{ℕ, Option, Some, None}
use Rattle.psl_grammar.specs.RawExpr as e
use Rattle.psl_grammar.specs.RawExpr.{RawExpr}
use Rattle.psl_grammar.specs.RawSere as s
use Rattle.psl_grammar.specs.RawSere.{RawSere}
use Rattle.psl_grammar.specs.RawProp as p
use Rattle.psl_grammar.specs.RawProp.{RawProp}

abbrev pub ExprNames : (signal : ℕ → Type 0) → RawExpr → Type 0
ExprNames signal (e.name n select) = signal n
ExprNames signal (e.literal n) = Unit {0}
ExprNames signal (e.unary mark a) = ExprNames signal a
ExprNames signal (e.binary mark a b) = ExprNames signal a × ExprNames signal b
ExprNames signal (e.choice mark test a b) =
    ExprNames signal test × ExprNames signal a × ExprNames signal b

abbrev pub SereNames : (signal sequence : ℕ → Type 0) → RawSere → Type 0
SereNames signal sequence (s.bool a) = ExprNames signal a
SereNames signal sequence (s.named n) = sequence n
SereNames signal sequence (s.lone mark low high) = Unit {0}
SereNames signal sequence (s.repeat r mark low high) = SereNames signal sequence r
SereNames signal sequence (s.join mark r t) = SereNames signal sequence r × SereNames signal sequence t

abbrev pub OnNames : (signal : ℕ → Type 0) → Option RawExpr → Type 0
OnNames signal None = Unit {0}
OnNames signal (Some a) = ExprNames signal a

abbrev pub PropNames : (signal sequence property : ℕ → Type 0) → RawProp → Type 0
PropNames signal sequence property (p.bool a) = ExprNames signal a
PropNames signal sequence property (p.named n) = property n
PropNames signal sequence property (p.seq r strong) = SereNames signal sequence r
PropNames signal sequence property (p.prefix word f) = PropNames signal sequence property f
PropNames signal sequence property (p.next word on low high f) =
    OnNames signal on × PropNames signal sequence property f
PropNames signal sequence property (p.binary mark f g) =
    PropNames signal sequence property f × PropNames signal sequence property g
PropNames signal sequence property (p.suffix mark r f) =
    SereNames signal sequence r × PropNames signal sequence property f
PropNames signal sequence property (p.abort f a) = PropNames signal sequence property f × ExprNames signal a
