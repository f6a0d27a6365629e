use Rattle.std.proofs.Common.{refl}
use Rattle.psl_lexer.proofs.Standing.{spelled}
use Rattle.psl_lexer.proofs.laws.tokens_are_spelled.Goals as goal

pub returns : goal.returns
returns c bytes tokens splits = spelled bytes 0 bytes tokens refl splits
