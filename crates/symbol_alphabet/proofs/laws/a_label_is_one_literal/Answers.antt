use Rattle.symbol_alphabet.proofs.Labels.{no_literal, literal_at, within}
use Rattle.symbol_alphabet.proofs.laws.a_label_is_one_literal.Goals as goal

pub returns : goal.returns
returns c = record { none = no_literal; one = literal_at; within = within }
