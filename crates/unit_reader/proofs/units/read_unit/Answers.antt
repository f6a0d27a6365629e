use Rattle.psl_grammar.specs.UnitView.{unit_of}
use Rattle.unit_reader.proofs.UnitReads.{answer_unit, answer_only}
use Rattle.unit_reader.proofs.units.read_unit.Goals as goal

pub returns-in-Ok-clause-unit : goal.returns-in-Ok-clause-unit
returns-in-Ok-clause-unit c = answer_unit c.args.text.now c.args.tokens.now unit_of c.read_whole.result
    c.read_whole.ensures

pub returns-in-Ok-clause-only : goal.returns-in-Ok-clause-only
returns-in-Ok-clause-only c = answer_only c.args.text.now c.args.tokens.now unit_of c.read_whole.result
    c.read_whole.ensures
