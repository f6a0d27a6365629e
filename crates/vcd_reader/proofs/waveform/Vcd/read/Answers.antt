use Rattle.std.proofs.Common.{◌≡◌, ◌∙◌, ap, arith}
use Rattle.vcd_reader.specs.inner.Scan.{bytes_taken, first_scan}
use Rattle.vcd_reader.specs.Stream.{stream_taken}
use Rattle.vcd_reader.proofs.ScanLemmas.{scan_none}
use Rattle.vcd_reader.proofs.waveform.Vcd.read.Goals as goal

pub feed-requires : goal.feed-requires
feed-requires c =
    let none : stream_taken c.new-reader.result ≡ 0 = ap stream_taken c.new-reader.ensures.nothing
    ∙ ap bytes_taken (scan_none first_scan) in
    record { fits = omega arith }
