-- The modules of a text: one checker for each directive of the unit for which it stands.
--     IsAccepted text              the text stands for a unit of which no directive is refused
--     AreModulesOf text modules    and these are its modules
--     IsTextOfModules text out     and this is the text of its modules
use Rattle.std.specs.Prelude.{◌≡◌, ◌≢◌, ◌≤◌, ℕ, suc, List, [], ◌∷◌, map, flat_map, sum, AllPairs}
use Rattle.psl_model.specs.Unit.{PslUnit, Directive}
use Rattle.verilog_text.specs.Module.{Module, IsLawful}
use Rattle.verilog_text.specs.State.{register_widths}
use Rattle.verilog_text.specs.Text.{spelling}
use Rattle.checker_meaning.specs.Headline.{IsCheckerOf}
use Rattle.psl_units.specs.StandsForUnit.{StandsForUnit}
use Rattle.unit_compile.specs.Directives.{bits_of, AreTaken}

-- the module of the unit's directive with this number
pub record IsMade (unit : PslUnit) (number : ℕ) (directive : Directive) (m : Module) : Type 0 where
  pub checker : IsCheckerOf unit number directive m
  pub lawful : IsLawful m
  pub bits : sum (register_widths m) ≤ bits_of directive

-- one a directive, in their order, numbered from `from` on
abbrev pub AreMade : PslUnit → (from : ℕ) → List Directive → List Module → Type 0
AreMade unit from [] [] = Unit {0}
AreMade unit from (directive ∷ directives) (m ∷ modules) = IsMade unit from directive m ×
    AreMade unit (suc from) directives modules
AreMade unit from _ _ = ⊥

pub record IsAccepted (text : List ℕ) : Type 0 where
  pub unit : PslUnit
  pub stands : StandsForUnit text unit
  pub taken : AreTaken 0 unit.directives

pub record AreModulesOf (text : List ℕ) (modules : List Module) : Type 0 where
  pub accepted : IsAccepted text
  pub made : AreMade accepted.unit 1 accepted.unit.directives modules
  pub distinct : AllPairs (λ m n. m ≢ n) (map (λ (m : Module). m.name) modules)

-- the texts of such modules, one behind the other
pub record IsTextOfModules (text checkers : List ℕ) : Type 0 where
  pub modules : List Module
  pub made : AreModulesOf text modules
  pub spelled : checkers ≡ flat_map spelling modules
