-- The text of the modules checks each unit for which the bytes stand.
use Rattle.std.proofs.Common.{◌≡◌, ℕ, suc, List, [], ◌∷◌, All, subst}
use Rattle.std.proofs.lemmas.List.Elements.{All-nil, All-cons}
use Rattle.std.specs.List.{flat_map}
use Rattle.psl_model.specs.Unit.{PslUnit, Directive}
use Rattle.verilog_text.specs.Module.{Module, IsLawful}
use Rattle.verilog_text.specs.Text.{spelling, StandsForModules}
use Rattle.checker_meaning.specs.Headline.{AreCheckersOf, ChecksUnit, IsCompiled}
use Rattle.psl_units.specs.StandsForUnit.{StandsForUnit}
use Rattle.unit_compile.specs.Made.{AreMade, AreModulesOf}

module _ (unit : PslUnit) where
  are_checkers : (from : ℕ) (ds : List Directive) (ms : List Module) → AreMade unit from ds ms
      → AreCheckersOf unit from ds ms
  are_checkers from [] [] h = tt
  are_checkers from [] (m ∷ ms) h = absurd h
  are_checkers from (d ∷ ds) [] h = absurd h
  are_checkers from (d ∷ ds) (m ∷ ms) h = (h.0.checker, are_checkers (suc from) ds ms h.1)

  are_lawful : (from : ℕ) (ds : List Directive) (ms : List Module) → AreMade unit from ds ms → All IsLawful ms
  are_lawful from [] [] h = All-nil IsLawful
  are_lawful from [] (m ∷ ms) h = absurd h
  are_lawful from (d ∷ ds) [] h = absurd h
  are_lawful from (d ∷ ds) (m ∷ ms) h = All-cons IsLawful m ms h.0.lawful (are_lawful (suc from) ds ms h.1)

pub compiled : ((bytes : List ℕ) (unit other : PslUnit) → StandsForUnit bytes unit → StandsForUnit bytes other
    → unit ≡ other) → (text checkers : List ℕ) (modules : List Module) → AreModulesOf text modules
    → checkers ≡ flat_map spelling modules → IsCompiled StandsForUnit text checkers
compiled one_unit text checkers modules h spelled =
    let stands : StandsForModules checkers modules = record {
      spelled = spelled;
      lawful = are_lawful h.accepted.unit 1 h.accepted.unit.directives modules h.made;
      distinct = h.distinct;
    } in
    let checks : ChecksUnit h.accepted.unit checkers =
    (modules, stands, are_checkers h.accepted.unit 1 h.accepted.unit.directives modules h.made) in
    record {
      is_unit = (h.accepted.unit, h.accepted.stands);
      checks = λ unit also.
          subst (λ (u : PslUnit). ChecksUnit u checkers)
          (one_unit text h.accepted.unit unit h.accepted.stands also) checks;
    }
