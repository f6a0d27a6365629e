use Rattle.symbol_alphabet.proofs.Labels.{passes_holds}
use Rattle.symbol_alphabet.proofs.laws.a_label_holds_as_its_expression.Goals as goal

pub returns : goal.returns
returns c = passes_holds
