use Rattle.psl_meaning.specs.Word.{ended}
use Rattle.psl_meaning.proofs.Always.{within_ended, reached_ended, letter_of_run}
use Rattle.psl_meaning.proofs.laws.an_ended_word_is_the_trace.Goals as goal

pub returns-clause-places : goal.returns-clause-places
returns-clause-places c trace k = (within_ended trace k, reached_ended trace k)

pub returns-clause-letters : goal.returns-clause-letters
returns-clause-letters c trace = letter_of_run trace ended
