-- How the private parts of `run` end, each for slot 0 alone.
use Rattle.std.specs.Prelude.{◌≡◌, ◌≢◌, ◌⊎◌, ℕ, ◌<◌, ◌≤◌, List, length, Result, Ok, Err}
use Rattle.psl_model.specs.declared.refusals.Refusal.{Refusal}
use Rattle.psl_model.specs.declared.refusals.Refusal.TheVariants as refusal
use Rattle.psl_model.specs.Limits.{unit_text_limit}
use Rattle.mbac_io.specs.Device.{TakesSome}
use Rattle.mbac_top.specs.declared.outcome.Cause.{Cause}
use Rattle.mbac_top.specs.declared.outcome.Cause.TheVariants.{Done, Usage, ReadFault, WriteFault, OutOfMemory}
use Rattle.mbac_top.specs.declared.outcome.Cause.TheVariants.{InputTooLong, Refused}
use Rattle.mbac_top.specs.Call.{Change, FaultRose, Writes, WritesPart, MayHave, IsLeftAlone}
use Rattle.mbac_top.specs.Compile.{IsCompiledTo, IsRefusedUnit}

-- the cause of a refusal: want of memory has one of its own
abbrev pub IsCauseOf : Refusal → Cause → Type 0
IsCauseOf r cause = ((r ≡ refusal.OutOfMemory) × (cause ≡ OutOfMemory))
    ⊎ ((r ≢ refusal.OutOfMemory) × (cause ≡ Refused r))

-- why bytes have no checker text
abbrev pub IsWhyUncompiled : List ℕ → Cause → Type 0
IsWhyUncompiled bytes OutOfMemory = Unit {0}
IsWhyUncompiled bytes cause = IsRefusedUnit bytes cause

-- the bytes of the slot, which fit, have this
abbrev pub HasShort : Change → (List ℕ → Type 0) → Type 0
HasShort input P = (bytes : List ℕ) × MayHave input bytes × (length bytes ≤ unit_text_limit) × P bytes

abbrev pub IsTextOf : Change → (text : List ℕ) → Type 0
IsTextOf input text = HasShort input (λ bytes. IsCompiledTo bytes text)

-- why there is no checker text of what the slot has
abbrev pub IsWhyUnread : Change → Cause → Type 0
IsWhyUnread input (ReadFault slot) = (slot ≡ 0) × ((bytes : List ℕ) × MayHave input bytes) × FaultRose input
IsWhyUnread input (InputTooLong slot) =
    (slot ≡ 0) × ((bytes : List ℕ) × MayHave input bytes × (unit_text_limit < length bytes))
IsWhyUnread input OutOfMemory = Unit {0}
IsWhyUnread input Usage = ⊥
IsWhyUnread input WriteFault = ⊥
IsWhyUnread input Done = ⊥
IsWhyUnread input (Refused r) = HasShort input (λ bytes. IsRefusedUnit bytes (Refused r))

-- how the writing of a text ends
abbrev pub WritesText : Change → (text : List ℕ) → Cause → Type 0
WritesText out text Done = Writes out text
WritesText out text WriteFault = WritesPart out text × FaultRose out
WritesText out text _ = ⊥

-- how the writing of a piece of a message ends
abbrev pub EndsWriting : {T E : Type 0} → Change → (text : List ℕ) → Result T E → Type 0
EndsWriting change text (Ok _) = Writes change text × (change.faults_before ≤ change.faults_after)
EndsWriting change text (Err _) =
    WritesPart change text × FaultRose change × (change.faults_before ≤ change.faults_after)

-- of all slots this one alone was read, from its front
pub record ReadsOnly (changes : ℕ → Change) (slot : ℕ) : Type 0 where
  pub front_taken : TakesSome (changes slot).before (changes slot).after
  pub others_left : (other : ℕ) → other ≢ slot → IsLeftAlone (changes other)
  pub never_falls : (any : ℕ) → (changes any).faults_before ≤ (changes any).faults_after
