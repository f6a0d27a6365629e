use Rattle.std.proofs.Common.{◌≡◌, ◌↔◌, ◌⊎◌, ℕ, Some, length, slice_get, sym, ap, ◌∙◌, subst, arith}
use Rattle.std.proofs.lemmas.Option.{slice_get-get_or}
use Rattle.circuit_core.specs.Run.{On}
use Rattle.first_failure.specs.declared.automaton.FailRow.{FailRow}
use Rattle.sequence_circuits.specs.Guards.{numbers, values_at}
use Rattle.sequence_circuits.specs.inner.Nets.{live_nets, stream_at}
use Rattle.sequence_circuits.specs.inner.Moves.{IsRowIn, IsMovedTo}
use Rattle.sequence_circuits.proofs.Kept.{extends_trans}
use Rattle.sequence_circuits.proofs.Targeting.{rows_more}
use Rattle.sequence_circuits.proofs.moves.take_rows.Goals as goal

pub take_row-requires-clause-row : goal.take_row-requires-clause-row
take_row-requires-clause-row c =
    let row = c.index-rows-place.result in
    subst (IsRowIn (length c.args.guards.now) (length c.args.rows.now)) (sym c.index-rows-place.is)
    (c.requires.rows c.loop-place.place row c.loop-place-test.true)

pub loop-place-preserved : goal.loop-place-preserved
loop-place-preserved c =
    let i = c.loop-place.place in
    let rows = c.args.rows.now in
    let row = c.index-rows-place.result in
    let at : slice_get rows i ≡ Some row =
    slice_get-get_or rows i row c.loop-place-test.true ∙ ap (λ (x : FailRow). Some x) (sym c.index-rows-place.is) in
    record {
      kept = extends_trans _ _ _ c.loop-place.invariant.kept c.in_ok-take_row.ensures.kept;
      registers = c.in_ok-take_row.ensures.registers ∙ c.loop-place.invariant.registers;
      size = c.in_ok-take_row.ensures.size ∙ c.loop-place.invariant.size;
      nets = c.in_ok-take_row.ensures.nets;
      stream = λ inputs run h n within s.
          rows_more run n rows i row c.args.states.now _ (values_at run (numbers c.args.guards.now) n) (length rows) s
          _ _ _ at (omega (arith, c.loop-place-test.true, c.requires.each))
          (c.loop-place.invariant.stream inputs run (c.in_ok-take_row.ensures.kept.runs inputs run h) n within s)
          (c.in_ok-take_row.ensures.stream inputs run h n within s);
    }

pub returns-clause-stream : goal.returns-clause-stream
returns-clause-stream c inputs run h n within s =
    let all : c.loop-place.place ≡ length c.args.rows.now = omega arith in
    subst (λ (i : ℕ). On (stream_at run (numbers c.loop-place.arrivals.items) s) n
    ↔ (On (stream_at run (numbers c.args.arrivals.now.items) s) n
    ⊎ IsMovedTo i c.args.rows.now (λ r. On (stream_at run (live_nets c.args.states.now) r) n)
    (values_at run (numbers c.args.guards.now) n) (length c.args.rows.now) s)) all
    (c.loop-place.invariant.stream inputs run h n within s)
