use Rattle.psl_meaning.proofs.Words.{bar-bar}
use Rattle.psl_meaning.proofs.laws.bar_of_bar_is_the_word.Goals as goal

pub returns : goal.returns
returns c = bar-bar
