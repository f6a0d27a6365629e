use Rattle.sequence_cores.proofs.Words.{counted_kept, kept_counted}
use Rattle.sequence_cores.proofs.laws.a_counted_sequence_has_the_same_words.Goals as goal

pub returns : goal.returns
returns c widths r w =
    let between = c.a_repetition_is_a_number_of_copies.ensures.between widths in
    let at_least = c.a_repetition_is_a_number_of_copies.ensures.at_least widths in
    (counted_kept widths between at_least r w, kept_counted widths between at_least r w)
