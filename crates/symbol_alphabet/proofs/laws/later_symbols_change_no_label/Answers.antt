use Rattle.symbol_alphabet.proofs.Labels.{has_more, label_more, passes_more}
use Rattle.symbol_alphabet.proofs.laws.later_symbols_change_no_label.Goals as goal

pub returns : goal.returns
returns c = record { numbered = has_more; label = label_more; passes = passes_more }
