use Rattle.std.proofs.Common.{◌≡◌, sym, ◌∙◌, ap}
use Rattle.std.specs.Option.{option_map_or}
use Rattle.vcd_reader.specs.inner.StateView.{state_of}
use Rattle.vcd_reader.specs.inner.Scan.{reads, fails, scan_from}
use Rattle.vcd_reader.specs.inner.ScanView.{scan_of}
use Rattle.vcd_reader.proofs.ScanLemmas.{failed_stays}
use Rattle.vcd_reader.proofs.scanner.Scanner.feed.Goals as goal

pub returns-in-Some : goal.returns-in-Some
returns-in-Some c =
    let now = c.args.self.now in
    let failed : scan_of now ≡ fails c.in-Some.field-0 =
    ap (λ f. option_map_or fails f (reads now.at now.partial.items (state_of now.reading))) c.in-Some.is in
    record {
      scans = failed ∙ sym (ap (λ scan. scan_from scan c.args.piece.now) failed
          ∙ failed_stays c.in-Some.field-0 c.args.piece.now);
    }
