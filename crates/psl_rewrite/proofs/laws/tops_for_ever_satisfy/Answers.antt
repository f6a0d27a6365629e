use Rattle.std.proofs.Common.{[]}
use Rattle.psl_model.specs.Sere.{Sere}
use Rattle.psl_meaning.specs.Word.{with_tops}
use Rattle.psl_rewrite.specs.BaseForm.{base_form_of}
use Rattle.psl_rewrite.specs.Obligations.{CanHappen, IsContradictory}
use Rattle.psl_rewrite.proofs.Obliges.{obliges}
use Rattle.psl_rewrite.proofs.Traces.{no_bottom_tops}
use Rattle.psl_rewrite.proofs.laws.tops_for_ever_satisfy.Goals as goal

pub returns-clause-satisfied : goal.returns-clause-satisfied
returns-clause-satisfied c widths f simple can =
    let begins = c.tops_follow_the_trace.ensures.never_ends [] 0 in
    let same = c.a_base_form_keeps_the_meaning.ensures f simple widths (with_tops []) begins (no_bottom_tops []) in
    same.0 (c.tops_for_ever_satisfy.ensures.satisfied widths (base_form_of f) (obliges (CanHappen widths) f simple can))

pub returns-clause-not_violated : goal.returns-clause-not_violated
returns-clause-not_violated c widths f simple can refuted =
    let begins = c.tops_follow_the_trace.ensures.never_ends [] 0 in
    let same = c.a_base_form_keeps_the_meaning.ensures f simple widths (with_tops []) begins (no_bottom_tops []) in
    c.tops_for_ever_satisfy.ensures.not_violated widths (base_form_of f)
    (obliges (λ (r : Sere). ¬ IsContradictory widths r) f simple can) (λ s. refuted (same.0 s))
