-- Bytes stand for a unit: this project's own grammar and rules, for a part of IEEE 1850-2010. What is believed of a
-- unit's text is this page and what it names.
--     Splits          the bytes are these tokens, with blanks and comments around them
--     IsUnit          the tokens are a unit of the grammar, in which no token stands too deep
--     refusal         the first broken rule on names, numbers, operators or sizes, if there is one
--     unit_for        the unit that the tree stands for
use Rattle.std.specs.Prelude.{◌≡◌, ℕ, None, List}
use Rattle.psl_lexer.specs.declared.kinds.Token.{Token}
use Rattle.psl_lexer.specs.Splits.{Splits}
use Rattle.psl_grammar.specs.RawUnit.{RawUnit}
use Rattle.psl_grammar.specs.Units.{IsUnit}
use Rattle.psl_model.specs.Unit.{PslUnit}
use Rattle.unit_rules.specs.Source.{source}
use Rattle.unit_rules.specs.Limits.{refusal}
use Rattle.psl_units.specs.Unit.{unit_for}

pub record StandsForUnit (bytes : List ℕ) (unit : PslUnit) : Type 0 where
  pub tokens : List Token
  pub raw : RawUnit
  pub split : Splits 0 bytes tokens
  pub written : IsUnit bytes tokens raw
  pub lawful : refusal (source bytes tokens) raw ≡ None
  pub meant : unit ≡ unit_for (source bytes tokens) raw
