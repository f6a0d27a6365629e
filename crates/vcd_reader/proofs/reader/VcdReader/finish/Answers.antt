use Rattle.std.proofs.Common.{◌∙◌}
use Rattle.vcd_reader.specs.inner.ScanView.{scan_of}
use Rattle.vcd_reader.proofs.Soundness.{sound_answer}
use Rattle.vcd_reader.proofs.StreamLemmas.{finished}
use Rattle.vcd_reader.proofs.reader.VcdReader.finish.Goals as goal

pub returns-clause-answers : goal.returns-clause-answers
returns-clause-answers c = λ bytes came.
    finished c.self.inside.lost (scan_of c.self.inside.scanner) bytes c.finish.result c.if-lost.false
    (c.self.view_is ∙ came) c.finish.ensures.outcome

pub returns-clause-sound : goal.returns-clause-sound
returns-clause-sound c = λ bytes came. sound_answer bytes c.finish.result (returns-clause-answers c bytes came)
