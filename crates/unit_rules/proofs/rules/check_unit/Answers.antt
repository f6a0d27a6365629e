use Rattle.unit_rules.specs.Source.{source}
use Rattle.unit_rules.proofs.AllFit.{rules_fit}
use Rattle.unit_rules.proofs.rules.check_unit.Goals as goal

pub returns-clause-numbers : goal.returns-clause-numbers
returns-clause-numbers c =
    rules_fit (source c.args.text.now c.args.tokens.now) c.args.raw.now.name c.args.raw.now.items.items
    c.in_ok-tables.ensures.0
