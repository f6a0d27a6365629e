use Rattle.compile_examples.proofs.budgets.+many.Given as goal

abbrev pub decreases-many : goal.decreases-many
decreases-many l = l.depth
