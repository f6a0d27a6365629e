use Rattle.strong_obligations.proofs.Growing.{bits_are}
use Rattle.strong_obligations.proofs.laws.each_register_has_one_bit.Goals as goal

pub returns : goal.returns
returns c m well = bits_are m well
