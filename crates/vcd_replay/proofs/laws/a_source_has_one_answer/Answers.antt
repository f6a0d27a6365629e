use Rattle.vcd_replay.proofs.Answered.{same_first}
use Rattle.vcd_replay.proofs.OneAnswer.{one_list_of_edges, one_row, one_answer}
use Rattle.vcd_replay.proofs.laws.a_source_has_one_answer.Goals as goal

pub returns : goal.returns
returns c = record { edges = one_list_of_edges; first = same_first; row = one_row; answer = one_answer }
