-- The commands: the words that say each, and the slots that it reads. This project's own.
use Rattle.std.specs.Prelude.{◌≡◌, ◌≢◌, ℕ, ◌<◌, List, [], ◌∷◌, length, slice_index, codes}
use Rattle.psl_model.specs.Limits.{unit_text_limit}

pub data Command : Type 0 where
  compile : Command

-- `compile` and a file
abbrev pub IsCompile : List (List ℕ) → Type 0
IsCompile (command ∷ file ∷ []) = (command ≡ codes "compile") × (file ≢ [])
IsCompile _ = ⊥

-- the words say this command
abbrev pub Says : List (List ℕ) → Command → Type 0
Says words compile = IsCompile words

-- the words say some command
abbrev pub IsCommand : List (List ℕ) → Type 0
IsCommand words = (command : Command) × Says words command

-- the most bytes of each slot that the command reads, from slot 0 on
abbrev pub limits_of : Command → List ℕ
limits_of compile = unit_text_limit ∷ []

abbrev pub slots_of : Command → ℕ
slots_of command = length (limits_of command)

abbrev pub Reads : Command → ℕ → Type 0
Reads command slot = slot < slots_of command

abbrev pub limit_of : Command → ℕ → ℕ
limit_of command slot = slice_index (limits_of command) slot
