-- What one call of `run` was given, and what it did to its inputs and its output. What it did to `notes`
-- has no place here: no answer hangs on it.
use Rattle.std.specs.Prelude.{◌≡◌, ℕ, List, IfSome, IsSome, Option, Some}
use Rattle.mbac_io.specs.Device.{Rose, Keeps, Appends, AppendsPart}

-- what a call did to a slot or to the output: the bytes, left or taken, that it tells, and its count of faults
pub record Change : Type 0 where
  pub before : Option (List ℕ)
  pub after : Option (List ℕ)
  pub faults_before : ℕ
  pub faults_after : ℕ

pub record Call : Type 0 where
  pub words : List (List ℕ)
  pub slots : ℕ → Change
  pub out : Change

-- the changes, from what an object tells before and after
abbrev pub slot_changes : {I : Type 0} (left : I → ℕ → Option (List ℕ)) (faults : I → ℕ → ℕ) (old new : I) → ℕ → Change
slot_changes left faults old new slot = record {
  before = left old slot;
  after = left new slot;
  faults_before = faults old slot;
  faults_after = faults new slot;
}

abbrev pub sink_change : {O : Type 0} (taken : O → Option (List ℕ)) (faults : O → ℕ) (old new : O) → Change
sink_change taken faults old new = record {
  before = taken old;
  after = taken new;
  faults_before = faults old;
  faults_after = faults new;
}

abbrev pub FaultRose : Change → Type 0
FaultRose change = Rose change.faults_before change.faults_after

abbrev pub Writes : Change → (text : List ℕ) → Type 0
Writes out text = Appends out.before out.after text

abbrev pub WritesPart : Change → (text : List ℕ) → Type 0
WritesPart out text = AppendsPart out.before out.after text

-- the bytes that each slot has
abbrev pub Contents : Type 0
Contents = ℕ → List ℕ

-- a slot may have had these bytes: where it tells its bytes, they are these
abbrev pub MayHave : Change → List ℕ → Type 0
MayHave slot bytes = IfSome slot.after (λ _. slot.before ≡ Some bytes)

-- a slot tells its bytes, and had these
abbrev pub Had : Change → List ℕ → Type 0
Had slot bytes = IsSome slot.after × (slot.before ≡ Some bytes)

-- neither its bytes nor its count changed
abbrev pub IsLeftAlone : Change → Type 0
IsLeftAlone slot = Keeps slot.before slot.after × (slot.faults_after ≡ slot.faults_before)
