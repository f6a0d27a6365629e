use Rattle.psl_rewrite.specs.Meaning.{named}
use Rattle.psl_rewrite.specs.Obligations.{CanHappen}
use Rattle.psl_rewrite.proofs.KnownLaws.{Laws}
use Rattle.psl_rewrite.proofs.BaseLasting.{base_lasts, not_refuted}
use Rattle.psl_rewrite.proofs.violations.tops_for_ever_satisfy.Goals as goal

pub returns-clause-satisfied : goal.returns-clause-satisfied
returns-clause-satisfied c widths f can =
    let laws : Laws = record {
      bar_of_bar = c.bar_of_bar_is_the_word.ensures;
      never_ends = c.tops_follow_the_trace.ensures.never_ends;
      each_place = c.everywhere_is_each_place.ensures;
      letters_decide = c.letters_alone_decide.ensures;
    } in
    (base_lasts laws widths f can).0

pub returns-clause-not_violated : goal.returns-clause-not_violated
returns-clause-not_violated c widths f can refuted =
    let laws : Laws = record {
      bar_of_bar = c.bar_of_bar_is_the_word.ensures;
      never_ends = c.tops_follow_the_trace.ensures.never_ends;
      each_place = c.everywhere_is_each_place.ensures;
      letters_decide = c.letters_alone_decide.ensures;
    } in
    not_refuted (CanHappen widths) (named f) can (λ each. refuted (base_lasts laws widths f each).0)
