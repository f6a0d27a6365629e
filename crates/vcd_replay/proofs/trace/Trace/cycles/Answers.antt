use Rattle.std.proofs.Common.{length, ap, sym, ◌∙◌}
use Rattle.vcd_replay.proofs.RowLemmas.{rows_length}
use Rattle.vcd_replay.proofs.trace.Trace.cycles.Goals as goal

pub returns : goal.returns
returns c = record {
  count = sym (ap length (sym c.self.view_is)
      ∙ rows_length c.self.inside.ports c.self.inside.cycles c.self.inside.values.items);
}
