use Rattle.std.proofs.Common.{◌≡◌, ◌++◌, Some, [], ◌∷◌, get_or, ◌∙◌, ap, arith}
use Rattle.std.specs.Prelude.{slice_get}
use Rattle.std.proofs.lemmas.List.{append_assoc}
use Rattle.std.proofs.lemmas.Option.{slice_get-get_or}
use Rattle.vcd_replay.proofs.Tables.{row_grows, row_full, row_whole}
use Rattle.vcd_replay.proofs.samples.put_row.Goals as goal

pub returns-in-None : goal.returns-in-None
returns-in-None c = record {
  row = λ place table.
      let so = c.loop-port.invariant place table in (
        (
          get_or c.args.codes.now c.loop-port.port 0,
          slice_get-get_or c.args.codes.now c.loop-port.port 0 (omega arith),
          c.in-None.ensures.value place table,
        ),
        λ p low. row_full c.args.changes.now c.args.codes.now place c.loop-port.port p so.0 so.2 low,
      );
}

pub loop-port-preserved : goal.loop-port-preserved
loop-port-preserved c = λ place table.
    let so = c.loop-port.invariant place table in
    let codes = c.args.codes.now in
    let here : slice_get codes c.loop-port.port ≡ Some (get_or codes c.loop-port.port 0) =
    slice_get-get_or codes c.loop-port.port 0 (omega arith) in (
      so.0 ++ c.in-Some.value ∷ [],
      c.in_ok-push-in-Some.ensures.items ∙ ap (λ xs. xs ++ c.in-Some.value ∷ []) so.1
          ∙ append_assoc c.args.values.now.items so.0 (c.in-Some.value ∷ []),
      row_grows c.args.changes.now codes place c.loop-port.port (get_or codes c.loop-port.port 0) c.in-Some.value so.0
          so.2 here (c.in-Some.ensures.value place table),
    )

pub returns : goal.returns
returns c = record {
  row = λ place table.
      let so = c.loop-port.invariant place table in
      (so.0, so.1, row_whole c.args.changes.now c.args.codes.now place c.loop-port.port so.0 (omega arith) so.2);
}
