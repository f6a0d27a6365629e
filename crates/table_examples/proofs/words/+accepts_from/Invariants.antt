use Rattle.std.proofs.Common.{length}
use Rattle.table_examples.proofs.words.+accepts_from.Given as goal

abbrev pub decreases-accepts_from : goal.decreases-accepts_from
decreases-accepts_from l = length l.letters.now
