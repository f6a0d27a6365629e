-- What a visit of sites answers: nothing where there is no fault, else the first fault, or want of memory; and the
-- state that goes from site to site and keeps the first fault.
use Rattle.std.specs.Prelude.{◌≡◌, ◌⊎◌, Bool, Option, None, Some, Result, Ok, Err, List, [], slice_get, fold}
use Rattle.unit_rules.specs.declared.errors.UnitError.{UnitError}
use Rattle.unit_rules.specs.declared.errors.UnitError.TheVariants.{OutOfMemory}
use Rattle.unit_rules.specs.Source.{Source}
use Rattle.unit_rules.specs.Sites.{Site}
use Rattle.unit_rules.specs.Known.{Known, after_site}
use Rattle.unit_rules.specs.Faults.{faults_at, where_broken}

-- the first of some faults, or want of memory
abbrev pub IsFirst : UnitError → List UnitError → Type 0
IsFirst error faults = (error ≡ OutOfMemory) ⊎ (slice_get faults 0 ≡ Some error)

abbrev pub Judges : {T : Type 0} → Result T UnitError → List UnitError → Type 0
Judges (Ok value) faults = faults ≡ []
Judges (Err error) faults = IsFirst error faults

-- what a visit of one site answers, and what is known then
abbrev pub VisitsSite : {T : Type 0} → Source → (old : Known) → Site → Result T UnitError → (new : Known) → Type 0
VisitsSite s old site (Ok value) new = (faults_at s old site ≡ []) × (new ≡ after_site s old site)
VisitsSite s old site (Err error) new = IsFirst error (faults_at s old site)

-- what is known while there is no fault, and then the first fault
pub data State : Type 0 where
  going : Known → State
  stopped : UnitError → State

abbrev pub state : Option UnitError → Known → State
state None known = going known
state (Some fault) known = stopped fault

abbrev pub visit : Source → State → Site → State
visit s (going known) site = state (slice_get (faults_at s known site) 0) (after_site s known site)
visit s (stopped fault) site = stopped fault

abbrev pub visit_all : Source → State → List Site → State
visit_all s begun sites = fold (visit s) begun sites

-- a place where one rule is broken or not
abbrev pub visit_rule : State → (broken : Bool) → UnitError → State
visit_rule (going known) broken fault = state (slice_get (where_broken broken fault) 0) known
visit_rule (stopped first) broken fault = stopped first
