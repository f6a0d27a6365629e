use Rattle.std.proofs.Common.{◌≡◌, ℕ, Bool, false, List, IfOk, filter, length, slice_index_or, replicate, subst, ap}
use Rattle.std.proofs.Common.{sym}
use Rattle.std.proofs.Common.{◌∙◌, ◌++◌, take, drop}
use Rattle.std.specs.List.{range_with_len}
use Rattle.std.proofs.Math.Seq.{take-append_seam}
use Rattle.psl_model.specs.View.{formula_of}
use Rattle.port_formulas.specs.inner.Marks.{marked_formula}
use Rattle.port_formulas.proofs.Used.{marked_used}
use Rattle.port_formulas.proofs.uses.used_places.Goals as goal

-- a list that was lent whole and written is the list that was written
written : (n : ℕ) (old new : List Bool) → n ≡ length new → take n (new ++ drop (length new) old) ≡ new
written n old new whole =
    ap (λ (k : ℕ). take k (new ++ drop (length new) old)) whole ∙ take-append_seam new (drop (length new) old)

pub returns : goal.returns
returns c =
    let f = formula_of c.args.formula.now in
    let lent = c.deref_mut.ensures.value in
    let whole = c.in_ok-marks.marks.ok.0 ∙ ap length (sym lent) ∙ sym c.mark_formula.auto.marks in
    let marks : c.deref.result.now ≡ marked_formula f (replicate c.args.count false) =
    c.deref.ensures.value ∙ written c.in_ok-marks.marks.len c.in_ok-marks.marks.items c.mark_formula.new.marks whole
    ∙ c.mark_formula.ensures ∙ ap (marked_formula f) (lent ∙ c.in_ok-marks.ensures) in
    let kept : List Bool → List ℕ =
    λ ms. filter (λ place. slice_index_or ms place false) (range_with_len 0 (length ms)) in
    subst (λ (l : List ℕ). IfOk c.marked_places.result (λ places. places.items ≡ l))
    (ap kept marks ∙ marked_used f c.args.count) c.marked_places.ensures
