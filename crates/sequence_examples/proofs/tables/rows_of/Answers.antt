use Rattle.sequence_examples.proofs.tables.rows_of.Goals as goal

pub returns-in-Ok-first_failure : goal.returns-in-Ok-first_failure
returns-in-Ok-first_failure c =
    c.the_rows_of_reached_sets_tell_the_first_failure.ensures.whole c.args.table.now c.in_ok-sets.sets.nodes
    c.in-Ok-first_failure.automaton c.in_ok-sets.ensures.sets c.in-Ok-first_failure.ensures.rows
