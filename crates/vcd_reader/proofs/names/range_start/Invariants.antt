use Rattle.std.proofs.Common.{◌≡◌, false, drop}
use Rattle.std.specs.List.{list_any}
use Rattle.std.specs.Prelude.{◌==◌}
use Rattle.vcd_reader.specs.Names.{has_range}
use Rattle.vcd_reader.proofs.names.range_start.Given as goal

abbrev pub invariant-loop-at : goal.invariant-loop-at
invariant-loop-at l = (l.colon ≡ list_any (λ later. later == 58) (drop l.at l.text))
    × (has_range (drop l.at l.text) ≡ false)
