use Rattle.std.specs.Prelude.{map}
use Rattle.psl_meaning.specs.Word.{valuation}
use Rattle.psl_rewrite.specs.Meaning.{named}
use Rattle.psl_rewrite.specs.Obligations.{CanHappen}
use Rattle.psl_rewrite.proofs.KnownLaws.{Laws}
use Rattle.psl_rewrite.proofs.BaseLasting.{base_lasts, begun, not_refuted}
use Rattle.psl_rewrite.proofs.violations.a_weak_violation_is_a_violation.Goals as goal

pub returns : goal.returns
returns c widths f trace can some refuted satisfied =
    let laws : Laws = record {
      bar_of_bar = c.bar_of_bar_is_the_word.ensures;
      never_ends = c.tops_follow_the_trace.ensures.never_ends;
      each_place = c.everywhere_is_each_place.ensures;
      letters_decide = c.letters_alone_decide.ensures;
    } in
    not_refuted (CanHappen widths) (named f) can
    (λ each. refuted ((base_lasts laws widths f each).1 (map valuation trace) (begun trace some) satisfied))
