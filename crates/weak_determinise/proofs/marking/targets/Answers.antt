use Rattle.std.proofs.Common.{◌∙◌, List, ap, false, length, arith}
use Rattle.std.proofs.lemmas.List.{length-replicate}
use Rattle.std.proofs.lemmas.Result.{IfOk-weaker}
use Rattle.weak_determinise.proofs.MarkedTargets.{no_rows, rows_more, targets_found, label_known, row_owned}
use Rattle.weak_determinise.proofs.marking.targets.Goals as goal

pub loop-place-init : goal.loop-place-init
loop-place-init c = record {
  size = ap (λ (s : List _). length s) c.in_ok-marks.ensures ∙ length-replicate c.args.count false;
  marks = no_rows c.args.count c.args.steps.now.labels.items c.args.steps.now.rows.items c.args.bits.now
      c.in_ok-marks.marks.items c.in_ok-marks.ensures;
}

pub mark_row-requires-clause-known : goal.mark_row-requires-clause-known
mark_row-requires-clause-known c =
    label_known (length c.args.bits.now) c.args.steps.now.labels.items c.loop-place.place c.index.result.now
    (let ok = c.args.steps.now.labels.ok in omega (arith, c.loop-place-test.true, ok)) c.index.ensures
    c.requires.known

pub mark_row-requires-clause-owned : goal.mark_row-requires-clause-owned
mark_row-requires-clause-owned c =
    row_owned c.args.count c.args.steps.now.rows.items c.loop-place.place c.index-in-loop-place.result.now
    c.loop-place.marks.items
    (let ok = c.args.steps.now.labels.ok in omega (arith, c.loop-place-test.true, ok, c.requires.even))
    c.index-in-loop-place.ensures c.loop-place.invariant.size c.requires.owned

pub loop-place-preserved : goal.loop-place-preserved
loop-place-preserved c = record {
  size = c.mark_row.ensures.size ∙ c.loop-place.invariant.size;
  marks = rows_more c.args.steps.now.labels.items c.args.steps.now.rows.items c.args.bits.now c.requires.even
      c.loop-place.place c.index.result.now c.index-in-loop-place.result.now _ _
      (let ok = c.args.steps.now.labels.ok in omega (arith, c.loop-place-test.true, ok))
      c.index.ensures c.index-in-loop-place.ensures c.loop-place.invariant.marks c.mark_row.ensures;
}

pub returns : goal.returns
returns c = IfOk-weaker c.marked.result _ _ (λ next found.
    targets_found c.args.steps.now.labels.items c.args.steps.now.rows.items c.args.bits.now c.requires.even
    c.loop-place.place c.args.count c.loop-place.marks.items _ next.items
    (let ok = c.args.steps.now.labels.ok in omega (arith, c.loop-place-test.false, ok)) c.loop-place.invariant.size
    c.as_slice.ensures.value c.loop-place.invariant.marks found) c.marked.ensures
