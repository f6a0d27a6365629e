-- The status that a program ends with, and what people are told: this project's own.
use Rattle.std.specs.Prelude.{ℕ, List, [], ◌∷◌, ◌++◌, codes, decimal}
use Rattle.std.specs.List.{flat_map}
use Rattle.psl_model.specs.declared.refusals.Refusal.{Refusal}
use Rattle.psl_model.specs.declared.refusals.Refusal.TheVariants as refusal
use Rattle.mbac_top.specs.declared.outcome.Cause.{Cause}
use Rattle.mbac_top.specs.declared.outcome.Cause.TheVariants.{Done, Usage, ReadFault, WriteFault, OutOfMemory}
use Rattle.mbac_top.specs.declared.outcome.Cause.TheVariants.{InputTooLong, Refused}

-- each other cause is a refused input
abbrev pub status_of : Cause → ℕ
status_of Done = 0
status_of Usage = 2
status_of (ReadFault slot) = 3
status_of WriteFault = 4
status_of OutOfMemory = 5
status_of _ = 6

-- numbers, each after one blank
abbrev pub numbers_of : List ℕ → List ℕ
numbers_of numbers = flat_map (λ number. codes " " ++ decimal number) numbers

abbrev pub numbered : (text numbers : List ℕ) → List ℕ
numbered text numbers = text ++ numbers_of numbers

-- the name of a refusal, and its fields in order
abbrev pub refusal_name : Refusal → List ℕ
refusal_name (refusal.BadByte offset) = codes "BadByte"
refusal_name (refusal.LeftOut offset) = codes "LeftOut"
refusal_name (refusal.NameTooLong offset) = codes "NameTooLong"
refusal_name (refusal.Syntax offset) = codes "Syntax"
refusal_name (refusal.TooDeep offset) = codes "TooDeep"
refusal_name (refusal.DuplicateName offset) = codes "DuplicateName"
refusal_name (refusal.BadRange offset) = codes "BadRange"
refusal_name (refusal.CountTooLarge offset) = codes "CountTooLarge"
refusal_name (refusal.TooManyDirectives offset) = codes "TooManyDirectives"
refusal_name (refusal.TooManySignals offset) = codes "TooManySignals"
refusal_name (refusal.BadLiteral offset) = codes "BadLiteral"
refusal_name (refusal.BadSelect offset) = codes "BadSelect"
refusal_name (refusal.TooWide offset) = codes "TooWide"
refusal_name (refusal.ConstantArithmetic offset) = codes "ConstantArithmetic"
refusal_name (refusal.TooTall directive depth) = codes "TooTall"
refusal_name (refusal.TooLarge directive nodes) = codes "TooLarge"
refusal_name (refusal.Subset directive rule) = codes "Subset"
refusal_name (refusal.TooManyPlaces directive sequence places) = codes "TooManyPlaces"
refusal_name (refusal.Contradiction directive sequence) = codes "Contradiction"
refusal_name (refusal.SequenceTooLarge directive sequence) = codes "SequenceTooLarge"
refusal_name (refusal.TooManyRegisters directive count) = codes "TooManyRegisters"
refusal_name (refusal.TooManySteps directive count) = codes "TooManySteps"
refusal_name refusal.OutOfMemory = codes "OutOfMemory"
refusal_name refusal.Unbuilt = codes "Unbuilt"

abbrev pub refusal_fields : Refusal → List ℕ
refusal_fields (refusal.BadByte offset) = offset ∷ []
refusal_fields (refusal.LeftOut offset) = offset ∷ []
refusal_fields (refusal.NameTooLong offset) = offset ∷ []
refusal_fields (refusal.Syntax offset) = offset ∷ []
refusal_fields (refusal.TooDeep offset) = offset ∷ []
refusal_fields (refusal.DuplicateName offset) = offset ∷ []
refusal_fields (refusal.BadRange offset) = offset ∷ []
refusal_fields (refusal.CountTooLarge offset) = offset ∷ []
refusal_fields (refusal.TooManyDirectives offset) = offset ∷ []
refusal_fields (refusal.TooManySignals offset) = offset ∷ []
refusal_fields (refusal.BadLiteral offset) = offset ∷ []
refusal_fields (refusal.BadSelect offset) = offset ∷ []
refusal_fields (refusal.TooWide offset) = offset ∷ []
refusal_fields (refusal.ConstantArithmetic offset) = offset ∷ []
refusal_fields (refusal.TooTall directive depth) = directive ∷ depth ∷ []
refusal_fields (refusal.TooLarge directive nodes) = directive ∷ nodes ∷ []
refusal_fields (refusal.Subset directive rule) = directive ∷ rule ∷ []
refusal_fields (refusal.TooManyPlaces directive sequence places) = directive ∷ sequence ∷ places ∷ []
refusal_fields (refusal.Contradiction directive sequence) = directive ∷ sequence ∷ []
refusal_fields (refusal.SequenceTooLarge directive sequence) = directive ∷ sequence ∷ []
refusal_fields (refusal.TooManyRegisters directive count) = directive ∷ count ∷ []
refusal_fields (refusal.TooManySteps directive count) = directive ∷ count ∷ []
refusal_fields refusal.OutOfMemory = []
refusal_fields refusal.Unbuilt = []

abbrev pub words_of : Cause → List ℕ
words_of Done = codes "done"
words_of Usage = codes "usage"
words_of (ReadFault slot) = numbered (codes "read fault in file") (slot ∷ [])
words_of WriteFault = codes "write fault"
words_of OutOfMemory = codes "out of memory"
words_of (InputTooLong slot) = numbered (codes "InputTooLong") (slot ∷ [])
words_of (Refused r) = numbered (refusal_name r) (refusal_fields r)

-- the line that tells people
abbrev pub message_of : Cause → List ℕ
message_of cause = codes "mbac: " ++ words_of cause ++ 10 ∷ []
