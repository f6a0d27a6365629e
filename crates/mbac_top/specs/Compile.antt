-- What the bytes of slot 0 are to `compile`.
use Rattle.std.specs.Prelude.{◌≡◌, ◌≢◌, ℕ, List}
use Rattle.psl_model.specs.declared.refusals.Refusal.{Refusal}
use Rattle.psl_model.specs.declared.refusals.Refusal.TheVariants as refusal
use Rattle.psl_units.specs.StandsForUnit.{StandsForUnit}
use Rattle.checker_meaning.specs.Headline.{IsCompiled}
use Rattle.unit_compile.specs.Made.{IsAccepted, IsTextOfModules}
use Rattle.unit_compile.specs.Refused.{IsRefused, IsFaultOfGrammar}
use Rattle.mbac_top.specs.declared.outcome.Cause.{Cause}
use Rattle.mbac_top.specs.declared.outcome.Cause.TheVariants.{Refused}

-- the bytes are a unit that is compiled
abbrev pub IsUnit : List ℕ → Type 0
IsUnit bytes = IsAccepted bytes

-- The text is a right answer to the bytes: it checks each unit for which they stand, and is the text of its modules.
abbrev pub IsCompiledTo : (bytes text : List ℕ) → Type 0
IsCompiledTo bytes text = IsCompiled StandsForUnit bytes text × IsTextOfModules bytes text

-- Why bytes have no such text. Each refusal has its own reason; want of memory, which is a cause by itself, is none.
abbrev pub IsRefusedUnit : List ℕ → Cause → Type 0
IsRefusedUnit bytes (Refused r) = IsRefused bytes r × (r ≢ refusal.OutOfMemory)
IsRefusedUnit bytes _ = ⊥

-- Where the tokens of a unit's text are no unit, which fault of the grammar is told isn't fixed: each of them says for
-- itself where it may be told.
pub record IsOtherFault (text : List ℕ) (due answer : Cause) : Type 0 where
  pub wanted : Refusal
  pub due_is : due ≡ Refused wanted
  pub wanted_fault : IsFaultOfGrammar text wanted
  pub told : Refusal
  pub answer_is : answer ≡ Refused told
  pub told_fault : IsFaultOfGrammar text told
