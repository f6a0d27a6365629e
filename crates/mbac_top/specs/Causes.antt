-- The table of causes: when each answer of `run` comes, and what goes before it in the order of refusals.
use Rattle.std.specs.Prelude.{◌≡◌, ℕ, suc, ◌<◌, ◌≤◌, ◌⊎◌, List, length}
use Rattle.mbac_top.specs.declared.outcome.Cause.{Cause}
use Rattle.mbac_top.specs.declared.outcome.Cause.TheVariants.{Done, Usage, ReadFault, WriteFault, OutOfMemory}
use Rattle.mbac_top.specs.declared.outcome.Cause.TheVariants.{InputTooLong}
use Rattle.mbac_top.specs.Words.{Command, Says, IsCommand, slots_of, Reads, limit_of}
use Rattle.mbac_top.specs.Words.Command.{compile}
use Rattle.mbac_top.specs.Call.{Call, FaultRose, Writes, WritesPart, Contents, MayHave, Had}
use Rattle.mbac_top.specs.Compile.{IsUnit, IsCompiledTo, IsRefusedUnit, IsOtherFault}

-- What a command makes of its slots, each of which is within its limit: one row a command.

abbrev pub IsAccepted : Command → Contents → Type 0
IsAccepted compile bytes = IsUnit (bytes 0)

-- the text that it writes for what it accepts
abbrev pub IsTextFor : Command → Contents → (text : List ℕ) → Type 0
IsTextFor compile bytes text = IsCompiledTo (bytes 0) text

-- why it accepts nothing
abbrev pub IsRefused : Command → Contents → Cause → Type 0
IsRefused compile bytes refusal = IsRefusedUnit (bytes 0) refusal

-- what it may answer in place of a refusal that is due
abbrev pub IsAnsweredInstead : Command → Contents → (due answer : Cause) → Type 0
IsAnsweredInstead compile bytes due answer = IsOtherFault (bytes 0) due answer

-- What goes before: slots are read in order, each up to its limit.

abbrev pub IsTooLong : Command → Contents → (slot : ℕ) → Type 0
IsTooLong command bytes slot = limit_of command slot < length (bytes slot)

abbrev pub FitBefore : Command → Contents → (slot : ℕ) → Type 0
FitBefore command bytes slot = (earlier : ℕ) → earlier < slot → length (bytes earlier) ≤ limit_of command earlier

abbrev pub AllFit : Command → Contents → Type 0
AllFit command bytes = FitBefore command bytes (slots_of command)

-- What the bytes demand: the answer that is due where memory and devices don't fail, one row a cause. The
-- devices' own causes and want of memory are never due.

abbrev pub IsDue : Command → Contents → Cause → Type 0
IsDue command bytes Usage = ⊥
IsDue command bytes (ReadFault slot) = ⊥
IsDue command bytes (InputTooLong slot) =
    Reads command slot × FitBefore command bytes slot × IsTooLong command bytes slot
IsDue command bytes WriteFault = ⊥
IsDue command bytes OutOfMemory = ⊥
IsDue command bytes Done = AllFit command bytes × IsAccepted command bytes
IsDue command bytes refusal = AllFit command bytes × IsRefused command bytes refusal

-- What an answer says, one row a cause. It speaks of the command that the words say, and of bytes that the
-- command's slots have: of a slot that tells its bytes, of those.

abbrev pub ForBytes : Call → (Command → Contents → Type 0) → Type 0
ForBytes call P = (command : Command) × (bytes : Contents) × Says call.words command
    × ((slot : ℕ) → Reads command slot → MayHave (call.slots slot) (bytes slot))
    × P command bytes

abbrev pub IsCause : Call → Cause → Type 0
IsCause call Usage = ¬ IsCommand call.words
IsCause call (ReadFault slot) = ForBytes call (λ command bytes.
    Reads command slot × FitBefore command bytes slot × FaultRose (call.slots slot))
IsCause call WriteFault = ForBytes call (λ command bytes.
    IsDue command bytes Done
    × ((text : List ℕ) × IsTextFor command bytes text × WritesPart call.out text)
    × FaultRose call.out)
IsCause call OutOfMemory = IsCommand call.words
IsCause call Done = ForBytes call (λ command bytes.
    IsDue command bytes Done
    × ((text : List ℕ) × IsTextFor command bytes text × Writes call.out text))
IsCause call refusal = ForBytes call (λ command bytes. IsDue command bytes refusal)

-- Where the slots tell their bytes, the due answer comes, or one that memory or a device puts in its place.

-- how many slots decide that an answer is due, from slot 0 on
abbrev pub slots_for : Command → Cause → ℕ
slots_for command (InputTooLong slot) = suc slot
slots_for command _ = slots_of command

abbrev pub ComesFor : Command → Contents → (due answer : Cause) → Type 0
ComesFor command bytes due answer = (answer ≡ due)
    ⊎ (answer ≡ OutOfMemory)
    ⊎ ((slot : ℕ) × (slot < slots_for command due) × (answer ≡ ReadFault slot))
    ⊎ ((due ≡ Done) × (answer ≡ WriteFault))
    ⊎ IsAnsweredInstead command bytes due answer

abbrev pub MeetsBytes : Call → (answer : Cause) → Type 0
MeetsBytes call answer = (command : Command) (bytes : Contents) (due : Cause) →
    Says call.words command →
    ((slot : ℕ) → slot < slots_for command due → Had (call.slots slot) (bytes slot)) →
    IsDue command bytes due → ComesFor command bytes due answer
