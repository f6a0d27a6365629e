use Rattle.psl_meaning.specs.Word.{tops}
use Rattle.psl_meaning.proofs.Always.{reached_tops, letter_of_run, letter_past_run}
use Rattle.psl_meaning.proofs.laws.tops_follow_the_trace.Goals as goal

pub returns-clause-never_ends : goal.returns-clause-never_ends
returns-clause-never_ends c = reached_tops

pub returns-clause-in_the_list : goal.returns-clause-in_the_list
returns-clause-in_the_list c trace = letter_of_run trace tops

pub returns-clause-after_the_list : goal.returns-clause-after_the_list
returns-clause-after_the_list c = letter_past_run
