use Rattle.symbol_alphabet.proofs.Labels.{with_has, with_known, with_new, with_grows, with_different}
use Rattle.symbol_alphabet.proofs.laws.an_expression_is_numbered_once.Goals as goal

pub returns : goal.returns
returns c = record {
  numbered = with_has;
  known = with_known;
  new = with_new;
  grows = with_grows;
  different = with_different;
}
