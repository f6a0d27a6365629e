use Rattle.unit_compile_examples.proofs.Lawful.{popped_lawful}
use Rattle.unit_compile_examples.proofs.cycles.last_of.Goals as goal

pub returns : goal.returns
returns c = popped_lawful c.args.modules.items _ c.pop.result c.pop.ensures.items c.requires
