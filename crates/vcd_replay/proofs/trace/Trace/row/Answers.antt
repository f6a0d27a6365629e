use Rattle.std.proofs.Common.{◌≡◌, ◌<◌, ◌*◌, length, take, drop, Some, ap, sym, ◌∙◌, arith}
use Rattle.std.specs.Prelude.{slice_get}
use Rattle.vcd_replay.proofs.RowLemmas.{rows_length, row_fits, row_at}
use Rattle.vcd_replay.proofs.trace.Trace.row.Goals as goal

pub part-requires : goal.part-requires
part-requires c =
    let count : length c.args.self.now ≡ c.self.inside.cycles = ap length (sym c.self.view_is)
    ∙ rows_length c.self.inside.ports c.self.inside.cycles c.self.inside.values.items in
    let low : c.args.cycle < c.self.inside.cycles = omega arith in
    let fits = row_fits c.self.inside.ports c.self.inside.cycles c.args.cycle low in
    let same : length c.deref.result.now ≡ length c.self.inside.values.items = ap length c.deref.ensures.value in
    omega (arith, fits, same, c.self.invariant)

pub returns : goal.returns
returns c =
    let count : length c.args.self.now ≡ c.self.inside.cycles = ap length (sym c.self.view_is)
    ∙ rows_length c.self.inside.ports c.self.inside.cycles c.self.inside.values.items in
    let low : c.args.cycle < c.self.inside.cycles = omega arith in
    record {
      values =
          ap (λ all. slice_get all c.args.cycle) (sym c.self.view_is)
          ∙ row_at c.self.inside.ports c.self.inside.cycles c.self.inside.values.items c.args.cycle low
          ∙ sym (ap Some (c.part.ensures.row
          ∙ ap (λ all. take c.self.inside.ports (drop (c.args.cycle * c.self.inside.ports) all))
          c.deref.ensures.value));
    }
