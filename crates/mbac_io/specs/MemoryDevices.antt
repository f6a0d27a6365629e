-- What the inputs and the sink in memory are made of.
use Rattle.std.specs.Prelude.{ℕ, List, [], map, unwrap_or, slice_get, Vec}
use Rattle.std.specs.declared.alloc.Global.{Global}
use Rattle.mbac_io.specs.Faults.{SlotCounts}

-- the bytes of each file
abbrev pub contents : List (Vec ℕ Global) → List (List ℕ)
contents files = map (λ file. file.items) files

-- the inputs: what each file has left, the most that a call gives, the numbers of the calls that fail,
-- the number of the next call, and how many faults each slot has met
pub record FilesInMemory : Type 0 where
  pub files : List (List ℕ)
  pub most : ℕ
  pub fail_at : List ℕ
  pub call : ℕ
  pub faults : SlotCounts

-- the file at a place: nothing where there is none
abbrev pub file_at : List (List ℕ) → ℕ → List ℕ
file_at files place = unwrap_or (slice_get files place) []

-- what a slot has left
abbrev pub left_of : FilesInMemory → ℕ → List ℕ
left_of inputs slot = file_at inputs.files slot

-- the sink: what it has taken, how much it has room for, the most that a call takes, the numbers of
-- the calls that fail, the number of the next call, and the faults
pub record BytesInMemory : Type 0 where
  pub taken : List ℕ
  pub room : ℕ
  pub most : ℕ
  pub fail_at : List ℕ
  pub call : ℕ
  pub faults : ℕ
