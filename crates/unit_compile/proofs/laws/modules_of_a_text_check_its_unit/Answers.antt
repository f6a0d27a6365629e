use Rattle.unit_compile.proofs.Checked.{compiled}
use Rattle.unit_compile.proofs.laws.modules_of_a_text_check_its_unit.Goals as goal

pub returns : goal.returns
returns c = compiled c.bytes_stand_for_one_unit.ensures
