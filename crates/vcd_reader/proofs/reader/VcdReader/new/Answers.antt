use Rattle.std.proofs.Common.{Some, ap, sym, ◌∙◌}
use Rattle.vcd_reader.specs.inner.Scan.{first_scan, bytes_taken}
use Rattle.vcd_reader.proofs.ScanLemmas.{scan_none}
use Rattle.vcd_reader.proofs.reader.VcdReader.new.Goals as goal

pub returns : goal.returns
returns c = record {
  nothing = ap Some (c.new.ensures.nothing ∙ sym (scan_none first_scan));
  none_taken =
      ap bytes_taken c.new.ensures.nothing;
}
