use Rattle.worked_checks.proofs.LawfulModules.{exchange_is_lawful, comparison_is_lawful, counter_is_lawful}
use Rattle.worked_checks.proofs.cycles.they_are_lawful.Goals as goal

pub returns : goal.returns
returns c = record {
  exchange = exchange_is_lawful;
  comparison = comparison_is_lawful;
  counter = counter_is_lawful;
}
