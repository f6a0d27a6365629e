-- Tokens, or a tree, that stand for a unit.
use Rattle.std.specs.Prelude.{◌≡◌, ℕ, None, List}
use Rattle.psl_lexer.specs.declared.kinds.Token.{Token}
use Rattle.psl_grammar.specs.RawUnit.{RawUnit}
use Rattle.psl_grammar.specs.Units.{IsUnit}
use Rattle.psl_model.specs.Unit.{PslUnit}
use Rattle.unit_rules.specs.Source.{source}
use Rattle.unit_rules.specs.Limits.{refusal}
use Rattle.psl_units.specs.Unit.{unit_for}

abbrev pub StandsByTree : (bytes : List ℕ) → List Token → RawUnit → PslUnit → Type 0
StandsByTree bytes tokens raw unit =
    (refusal (source bytes tokens) raw ≡ None) × (unit ≡ unit_for (source bytes tokens) raw)

abbrev pub StandsByTokens : (bytes : List ℕ) → List Token → PslUnit → Type 0
StandsByTokens bytes tokens unit = (raw : RawUnit) × IsUnit bytes tokens raw × StandsByTree bytes tokens raw unit
