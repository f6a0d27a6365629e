use Rattle.std.proofs.Common.{length, arith}
use Rattle.psl_lexer.proofs.Readings.{reading}
use Rattle.psl_lexer.proofs.laws.each_text_has_a_reading.Goals as goal

pub returns : goal.returns
returns c bytes = reading (length bytes) 0 bytes (omega arith)
