use Rattle.psl_model.specs.Value.{own_value, value_of}
use Rattle.psl_model.proofs.Shifts.{left_by, right_by}
use Rattle.psl_model.proofs.values.a_shift_by_the_width_is_zero.Goals as goal

pub returns-clause-left : goal.returns-clause-left
returns-clause-left c widths values width a b within =
    left_by (value_of widths values width a) (own_value widths values b) width within

pub returns-clause-right : goal.returns-clause-right
returns-clause-right c widths values width a b fits within =
    right_by (value_of widths values width a) (own_value widths values b) width fits within
