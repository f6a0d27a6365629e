use Rattle.unit_texts.proofs.OneUnit.{one_unit}
use Rattle.unit_texts.proofs.laws.bytes_stand_for_one_unit.Goals as goal

pub returns : goal.returns
returns c = one_unit c.a_text_has_one_reading.ensures.one_split c.tokens_are_one_unit.ensures
