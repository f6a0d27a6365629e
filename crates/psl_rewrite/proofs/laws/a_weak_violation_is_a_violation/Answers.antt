use Rattle.std.specs.Prelude.{map}
use Rattle.psl_model.specs.Sere.{Sere}
use Rattle.psl_meaning.specs.Word.{valuation, finite, with_tops}
use Rattle.psl_rewrite.specs.BaseForm.{base_form_of}
use Rattle.psl_rewrite.specs.Obligations.{IsContradictory}
use Rattle.psl_rewrite.proofs.Obliges.{obliges}
use Rattle.psl_rewrite.proofs.Traces.{no_bottom_tops, no_bottom_finite, begun_reaches}
use Rattle.psl_rewrite.proofs.laws.a_weak_violation_is_a_violation.Goals as goal

pub returns : goal.returns
returns c widths f trace simple can some refuted satisfied =
    let same = c.a_base_form_keeps_the_meaning.ensures f simple widths in
    let begins = c.tops_follow_the_trace.ensures.never_ends (map valuation trace) 0 in
    let so_far = same (with_tops (map valuation trace)) begins (no_bottom_tops trace) in
    let whole = same (finite (map valuation trace)) (begun_reaches trace some) (no_bottom_finite trace) in
    c.a_weak_violation_is_a_violation.ensures widths (base_form_of f) trace
    (obliges (λ (r : Sere). ¬ IsContradictory widths r) f simple can) some (λ s. refuted (so_far.0 s))
    (whole.1 satisfied)
