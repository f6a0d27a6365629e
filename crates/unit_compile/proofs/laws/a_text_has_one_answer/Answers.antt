use Rattle.unit_compile.proofs.OneAnswer.{one_refusal, not_accepted}
use Rattle.unit_compile.proofs.laws.a_text_has_one_answer.Goals as goal

pub returns : goal.returns
returns c = record {
  one = one_refusal c.a_text_has_one_reading.ensures.one_split c.a_text_has_one_reading.ensures.not_both
      c.a_text_has_one_reading.ensures.one_fault c.tokens_are_one_unit.ensures c.bytes_stand_for_one_unit.ensures
      c.a_formula_has_one_number_of_steps.ensures c.the_first_large_sequence_is_one.ensures.one
      c.the_first_large_sequence_is_one.ensures.none;
  not_both = not_accepted c.a_text_has_one_reading.ensures.one_split c.a_text_has_one_reading.ensures.not_both
      c.a_text_has_one_reading.ensures.one_fault c.tokens_are_one_unit.ensures c.bytes_stand_for_one_unit.ensures
      c.a_formula_has_one_number_of_steps.ensures c.the_first_large_sequence_is_one.ensures.one
      c.the_first_large_sequence_is_one.ensures.none;
}
