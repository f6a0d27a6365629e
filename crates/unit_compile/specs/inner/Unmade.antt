-- What is made of a unit's directives, and why there is no more.
use Rattle.std.specs.Prelude.{◌≡◌, ◌⊎◌, ℕ, List, [], ◌∷◌, ◌++◌}
use Rattle.psl_model.specs.declared.refusals.Refusal.{Refusal}
use Rattle.psl_model.specs.declared.refusals.Refusal.TheVariants.{OutOfMemory}
use Rattle.psl_model.specs.Unit.{PslUnit, Directive}
use Rattle.verilog_text.specs.Module.{Module}
use Rattle.unit_compile.specs.Directives.{IsRefusedAt, FirstRefusal}
use Rattle.unit_compile.specs.Made.{IsMade}

-- the checker of the directive with this number stands behind the others
pub record HasOneMore (unit : PslUnit) (number : ℕ) (directive : Directive) (old new : List Module) : Type 0 where
  pub last : Module
  pub listed : new ≡ old ++ last ∷ []
  pub made : IsMade unit number directive last

abbrev pub IsUnmade : (number before : ℕ) → Directive → Refusal → Type 0
IsUnmade number before directive r = (r ≡ OutOfMemory) ⊎ IsRefusedAt number before directive r

abbrev pub AreUnmade : List Directive → Refusal → Type 0
AreUnmade directives r = (r ≡ OutOfMemory) ⊎ FirstRefusal 1 0 directives r

abbrev pub IsUncompiled : PslUnit → Refusal → Type 0
IsUncompiled unit r = (r ≡ OutOfMemory) ⊎ FirstRefusal 1 0 unit.directives r
