-- A list with a mark for each signal, after the signals that are used are marked.
use Rattle.std.specs.Prelude.{Bool, true, List, slice_set}
use Rattle.psl_model.specs.Expr.{Expr, whole, bit, part, plain, sized, unary, binary, choice}
use Rattle.psl_model.specs.Sere as sere
use Rattle.psl_model.specs.Formula as formula

abbrev pub marked_expr : Expr → List Bool → List Bool
marked_expr (whole signal) marks = slice_set marks signal true
marked_expr (bit signal place) marks = slice_set marks signal true
marked_expr (part signal high low) marks = slice_set marks signal true
marked_expr (plain number) marks = marks
marked_expr (sized width value) marks = marks
marked_expr (unary op a) marks = marked_expr a marks
marked_expr (binary op a b) marks = marked_expr b (marked_expr a marks)
marked_expr (choice test first second) marks = marked_expr second (marked_expr first (marked_expr test marks))

abbrev pub marked_sere : sere.Sere → List Bool → List Bool
marked_sere (sere.bool e) marks = marked_expr e marks
marked_sere (sere.concat r s) marks = marked_sere s (marked_sere r marks)
marked_sere (sere.fuse r s) marks = marked_sere s (marked_sere r marks)
marked_sere (sere.or r s) marks = marked_sere s (marked_sere r marks)
marked_sere (sere.both r s) marks = marked_sere s (marked_sere r marks)
marked_sere (sere.meet r s) marks = marked_sere s (marked_sere r marks)
marked_sere (sere.within r s) marks = marked_sere s (marked_sere r marks)
marked_sere (sere.repeat r low high) marks = marked_sere r marks
marked_sere (sere.goto e low high) marks = marked_expr e marks
marked_sere (sere.equal e low high) marks = marked_expr e marks

abbrev pub marked_formula : formula.Formula → List Bool → List Bool
marked_formula (formula.bool e) marks = marked_expr e marks
marked_formula (formula.not f) marks = marked_formula f marks
marked_formula (formula.and f g) marks = marked_formula g (marked_formula f marks)
marked_formula (formula.or f g) marks = marked_formula g (marked_formula f marks)
marked_formula (formula.implies f g) marks = marked_formula g (marked_formula f marks)
marked_formula (formula.iff f g) marks = marked_formula g (marked_formula f marks)
marked_formula (formula.seq r strong) marks = marked_sere r marks
marked_formula (formula.suffix r later f) marks = marked_formula f (marked_sere r marks)
marked_formula (formula.always f) marks = marked_formula f marks
marked_formula (formula.never f) marks = marked_formula f marks
marked_formula (formula.eventually f) marks = marked_formula f marks
marked_formula (formula.next strong reach low high f) marks = marked_formula f marks
marked_formula (formula.event on strong reach low high f) marks = marked_formula f (marked_expr on marks)
marked_formula (formula.until strong overlap f g) marks = marked_formula g (marked_formula f marks)
marked_formula (formula.before strong overlap f g) marks = marked_formula g (marked_formula f marks)
marked_formula (formula.abort f on) marks = marked_expr on (marked_formula f marks)
