use Rattle.std.proofs.Common.{◌∙◌, sym, subst}
use Rattle.vcd_reader.specs.inner.Scan.{IsPartWithin}
use Rattle.vcd_reader.specs.inner.ScanView.{scan_of}
use Rattle.vcd_reader.proofs.ScanLemmas.{scan_within}
use Rattle.vcd_reader.proofs.StreamLemmas.{fed, counted}
use Rattle.vcd_reader.proofs.reader.VcdReader.feed.Goals as goal

pub invariant_of-self : goal.invariant_of-self
invariant_of-self c = λ fine.
    subst IsPartWithin (sym c.in-Ok.ensures.scans)
    (scan_within (scan_of c.self.inside.scanner) c.args.piece.now (c.self.invariant fine))

pub returns-in-Ok-clause-takes : goal.returns-in-Ok-clause-takes
returns-in-Ok-clause-takes c = λ bytes came.
    fed c.self.inside.lost (scan_of c.self.inside.scanner) (scan_of c.feed.new.self) bytes c.args.piece.now
    c.if-self.false (c.self.view_is ∙ came) c.in-Ok.ensures.scans

pub returns-in-Ok-clause-counts : goal.returns-in-Ok-clause-counts
returns-in-Ok-clause-counts c =
    counted c.self.inside.lost (scan_of c.self.inside.scanner) (scan_of c.feed.new.self) c.args.self.now
    c.args.piece.now c.if-self.false c.self.view_is c.in-Ok.ensures.scans
