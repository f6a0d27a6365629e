-- A verification unit as plain data (IEEE 1850-2010, 7.2), with its named sequences and properties put in place.
use Rattle.std.specs.Prelude.{List, ℕ, Option}
use Rattle.psl_model.specs.declared.names.Signal.{Signal}
use Rattle.psl_model.specs.Formula.{Formula}

-- an `assert`: `report` is a text for people
pub record Directive : Type 0 where
  pub label : Option (List ℕ)
  pub report : Option (List ℕ)
  pub formula : Formula

-- the expressions of the directives name the signals by their places
pub record PslUnit : Type 0 where
  pub name : List ℕ
  pub signals : List Signal
  pub directives : List Directive
