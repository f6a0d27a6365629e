use Rattle.circuit_examples.proofs.formulas.+many.Given as goal

abbrev pub decreases-many : goal.decreases-many
decreases-many l = l.depth
