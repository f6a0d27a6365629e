use Rattle.unit_compile_examples.proofs.cycles.step.Goals as goal

pub step-requires : goal.step-requires
step-requires c = rw c.requires (c.fitting.ensures, tt)
