use Rattle.psl_rewrite.proofs.WordLaws.{WordLaws}
use Rattle.psl_rewrite.proofs.Keeps.{means_the_same}
use Rattle.psl_rewrite.proofs.laws.a_base_form_keeps_the_meaning.Goals as goal

pub returns : goal.returns
returns c f simple =
    let laws : WordLaws = record {
      bar_of_bar = c.bar_of_bar_is_the_word.ensures;
      bar_letters = c.letters_keep_their_places.ensures.bar;
      suffix_letters = c.letters_keep_their_places.ensures.suffix;
      prefix_letters = c.letters_keep_their_places.ensures.prefix;
      prefix_ends = c.letters_keep_their_places.ensures.prefix_ends;
      never_ends = c.tops_follow_the_trace.ensures.never_ends;
    } in
    means_the_same laws f simple
