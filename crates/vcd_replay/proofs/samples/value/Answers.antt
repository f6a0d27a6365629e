use Rattle.std.proofs.Common.{◌≡◌, ℕ, Some, MatchOption, List, length, refl, sym, ◌∙◌, ap, subst}
use Rattle.vcd_reader.specs.declared.waveform.Change.{Change}
use Rattle.std.specs.Prelude.{slice_get}
use Rattle.std.proofs.lemmas.Option.{slice_get_read}
use Rattle.vcd_replay.specs.Values.{AreKnown, bits_value}
use Rattle.vcd_replay.proofs.Tables.{value_from, in_table}
use Rattle.vcd_replay.proofs.samples.value.Goals as goal

pub returns-in-Some : goal.returns-in-Some
returns-in-Some c = record {
  value = λ place table.
      let changes = c.args.changes.now in
      let last = c.args.last.now in
      let at = c.in-Some.at in
      let change = c.index-changes-at.result in
      let here : slice_get changes at ≡ Some change =
      slice_get_read changes (length changes) at change refl
      (in_table changes last c.args.code place at table c.requires.within c.in-Some.is) c.index-changes-at.is in
      value_from changes last c.args.code place at change c.number.result table c.requires.within c.in-Some.is here
      (subst (λ (digits : List ℕ). MatchOption c.number.result (¬ AreKnown digits)
      (λ value. AreKnown digits × (value ≡ bits_value digits)))
      (c.bytes.ensures.all_bytes ∙ ap (λ (z : Change). z.digits) (sym c.index-changes-at.is))
      c.number.ensures.cases);
}
