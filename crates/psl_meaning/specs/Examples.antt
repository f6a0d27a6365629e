-- Two signals of one bit, formulas over them and traces of them, for the examples.
use Rattle.std.specs.Prelude.{ℕ, List, [], ◌∷◌, map, Some, true, false}
use Rattle.psl_model.specs.Expr.{Expr, whole, sized}
use Rattle.psl_model.specs.Sere.{Sere, concat, goto, equal}
use Rattle.psl_model.specs.Sere as sere
use Rattle.psl_model.specs.Formula.{Formula, bool, seq, always, next, until, abort}
use Rattle.psl_model.specs.declared.formulas.Reach.TheVariants.{One}
use Rattle.psl_meaning.specs.Word.{Valuation}

abbrev pub widths : List ℕ
widths = 1 ∷ 1 ∷ []

abbrev pub a : Expr
a = whole 0

abbrev pub b : Expr
b = whole 1

-- another name of the second signal
abbrev pub r : Expr
r = whole 1

-- `false`
abbrev pub always_false : Expr
always_false = sized 1 0

-- `always a`
abbrev pub always_a : Formula
always_a = always (bool a)

-- `{a;false}`
abbrev pub a_then_false : Formula
a_then_false = seq (concat (sere.bool a) (sere.bool always_false)) false

-- `a until! b`
abbrev pub a_until_b : Formula
a_until_b = until true false (bool a) (bool b)

-- `next! b` and `next b`
abbrev pub strong_next_b : Formula
strong_next_b = next true One 1 1 (bool b)

abbrev pub weak_next_b : Formula
weak_next_b = next false One 1 1 (bool b)

-- `(always a) abort r` and `always (a abort r)`
abbrev pub abort_outside : Formula
abort_outside = abort (always (bool a)) r

abbrev pub abort_inside : Formula
abort_inside = always (abort (bool a) r)

-- `a[->2]`
abbrev pub second_a : Sere
second_a = goto a 2 (Some 2)

-- `a[=1];b`
abbrev pub one_a_then_b : Sere
one_a_then_b = concat (equal a 1 (Some 1)) (sere.bool b)

-- the values of `a`, cycle by cycle
abbrev pub trace_of_a : List ℕ → List Valuation
trace_of_a values = map (λ x. x ∷ []) values

-- the values of `a` and those of the second signal, cycle by cycle
abbrev pub trace_of_both : (first second : List ℕ) → List Valuation
trace_of_both (x ∷ xs) (y ∷ ys) = (x ∷ y ∷ []) ∷ trace_of_both xs ys
trace_of_both (x ∷ xs) [] = []
trace_of_both [] ys = []
