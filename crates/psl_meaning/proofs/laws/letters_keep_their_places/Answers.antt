use Rattle.psl_meaning.proofs.Words.{letter_at-bar}
use Rattle.psl_meaning.proofs.Order.{slice_get-drop_at, first_of, first_past}
use Rattle.std.proofs.Common.{refl}
use Rattle.psl_meaning.proofs.laws.letters_keep_their_places.Goals as goal

pub returns-clause-bar : goal.returns-clause-bar
returns-clause-bar c = letter_at-bar

pub returns-clause-suffix : goal.returns-clause-suffix
returns-clause-suffix c w k j = rw (slice_get-drop_at w.letters k j) refl

pub returns-clause-prefix : goal.returns-clause-prefix
returns-clause-prefix c w n k within = first_of w.letters w.ending n k within

pub returns-clause-prefix_ends : goal.returns-clause-prefix_ends
returns-clause-prefix_ends c w n k past = first_past w.letters w.ending n k past
