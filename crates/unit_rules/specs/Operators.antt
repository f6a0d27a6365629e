-- What the words and marks of a raw tree stand for. A kind of token that the grammar doesn't have at such a place
-- stands for the last of each list.
use Rattle.std.specs.Prelude.{Bool, true, false}
use Rattle.psl_lexer.specs.declared.kinds.Kind.{Kind}
use Rattle.psl_lexer.specs.declared.kinds.Kind.TheVariants.{Word, Mark}
use Rattle.psl_lexer.specs.declared.kinds.Key.TheVariants.{NextStrong, NextA, NextAStrong, NextE, NextEStrong}
use Rattle.psl_lexer.specs.declared.kinds.Key.TheVariants.{NextEvent, NextEventStrong, NextEventA, NextEventAStrong}
use Rattle.psl_lexer.specs.declared.kinds.Key.TheVariants.{NextEventE, NextEventEStrong}
use Rattle.psl_lexer.specs.declared.kinds.Mark.TheVariants as m
use Rattle.psl_model.specs.declared.operators.UnOp.{UnOp}
use Rattle.psl_model.specs.declared.operators.UnOp.TheVariants.{Not, Flip, AllOnes, AnyOne, Parity}
use Rattle.psl_model.specs.declared.operators.BinOp.{BinOp}
use Rattle.psl_model.specs.declared.operators.BinOp.TheVariants.{Add, Sub, Shl, Shr, Lt, Le, Gt, Ge, Eq, Ne, BitAnd}
use Rattle.psl_model.specs.declared.operators.BinOp.TheVariants.{BitXor, BitOr, And, Or}
use Rattle.psl_model.specs.declared.formulas.Reach.{Reach}
use Rattle.psl_model.specs.declared.formulas.Reach.TheVariants as reach

abbrev pub un_op_of : Kind → UnOp
un_op_of (Mark m.Exclamation) = Not
un_op_of (Mark m.Tilde) = Flip
un_op_of (Mark m.And) = AllOnes
un_op_of (Mark m.Or) = AnyOne
un_op_of _ = Parity

abbrev pub bin_op_of : Kind → BinOp
bin_op_of (Mark m.Plus) = Add
bin_op_of (Mark m.Minus) = Sub
bin_op_of (Mark m.ShiftLeft) = Shl
bin_op_of (Mark m.ShiftRight) = Shr
bin_op_of (Mark m.Less) = Lt
bin_op_of (Mark m.LessEqual) = Le
bin_op_of (Mark m.Greater) = Gt
bin_op_of (Mark m.GreaterEqual) = Ge
bin_op_of (Mark m.EqualEqual) = Eq
bin_op_of (Mark m.NotEqual) = Ne
bin_op_of (Mark m.And) = BitAnd
bin_op_of (Mark m.Caret) = BitXor
bin_op_of (Mark m.Or) = BitOr
bin_op_of (Mark m.AndAnd) = And
bin_op_of _ = Or

-- whether a count or lower end of 0 is refused after this mark or word: `[->` and the words of `next_event`
abbrev pub refuses_zero : Kind → Bool
refuses_zero (Mark m.GotoOpen) = true
refuses_zero (Word NextEvent) = true
refuses_zero (Word NextEventStrong) = true
refuses_zero (Word NextEventA) = true
refuses_zero (Word NextEventAStrong) = true
refuses_zero (Word NextEventE) = true
refuses_zero (Word NextEventEStrong) = true
refuses_zero _ = false

-- how much of its range a word of `next` or `next_event` speaks of
abbrev pub reach_of : Kind → Reach
reach_of (Word NextA) = reach.All
reach_of (Word NextAStrong) = reach.All
reach_of (Word NextEventA) = reach.All
reach_of (Word NextEventAStrong) = reach.All
reach_of (Word NextE) = reach.Some
reach_of (Word NextEStrong) = reach.Some
reach_of (Word NextEventE) = reach.Some
reach_of (Word NextEventEStrong) = reach.Some
reach_of _ = reach.One

-- whether a word of `next` or `next_event` is the strong one
abbrev pub is_strong_next : Kind → Bool
is_strong_next (Word NextStrong) = true
is_strong_next (Word NextAStrong) = true
is_strong_next (Word NextEStrong) = true
is_strong_next (Word NextEventStrong) = true
is_strong_next (Word NextEventAStrong) = true
is_strong_next (Word NextEventEStrong) = true
is_strong_next _ = false
