use Rattle.port_formulas.proofs.Sequences.{sere_over}
use Rattle.port_formulas.proofs.laws.a_sequence_over_its_signals_is_the_same.Goals as goal

pub returns : goal.returns
returns c places widths r w only = sere_over widths places r only w
