-- Where an automaton of rows leads, and when it tells the first failure of an automaton over labels.
use Rattle.std.specs.Prelude.{◌≡◌, ◌≢◌, ℕ, ◌<◌, ◌^◌, ◌↔◌, Bool, List, [], ◌∷◌, ◌++◌, Option, None, Some, length, map}
use Rattle.std.specs.Prelude.{replicate, slice_get, All, Contains}
use Rattle.auto_core.specs.Machine.{Machine, Letter, Accepts}
use Rattle.weak_determinise.specs.declared.sets.SetNode.{SetNode}
use Rattle.weak_determinise.specs.declared.sets.Move.{Move}
use Rattle.weak_determinise.specs.declared.sets.Move.TheVariants.{Empty, Accepting, Set}
use Rattle.weak_determinise.specs.Nodes.{number_of}
use Rattle.first_failure.specs.declared.automaton.Next.{Next}
use Rattle.first_failure.specs.declared.automaton.Next.TheVariants.{Fail, Done, Go}
use Rattle.first_failure.specs.declared.automaton.FailRow.{FailRow}
use Rattle.first_failure.specs.declared.automaton.FailAuto.{FailAuto}

abbrev pub next_of : Move → Next
next_of Empty = Fail
next_of Accepting = Done
next_of (Set n) = Go n

abbrev pub row_of : SetNode → FailRow
row_of node = record { symbols = node.leaving; next = map next_of node.moves }

-- ---- where lists of values lead

abbrev pub if_there : Option Next → Next
if_there None = Fail
if_there (Some next) = next

-- where the values lead from this row, if it is there
abbrev pub next_in : Option FailRow → (ℕ → Bool) → Next
next_in None values = Fail
next_in (Some row) values = if_there (slice_get row.next (number_of (map values row.symbols)))

-- where the values lead; nothing leads away from Fail and Done
abbrev pub next_at : FailAuto → Next → (ℕ → Bool) → Next
next_at auto Fail values = Fail
next_at auto Done values = Done
next_at auto (Go n) values = next_in (slice_get auto.rows n) values

-- where a list of values leads, one after the other
abbrev pub lead : FailAuto → Next → List (ℕ → Bool) → Next
lead auto from [] = from
lead auto from (v ∷ vs) = lead auto (next_at auto from v) vs

abbrev pub IsRow : FailAuto → Next → Type 0
IsRow auto Fail = ⊥
IsRow auto Done = ⊥
IsRow auto (Go n) = n < length auto.rows

-- ---- what is accepted

-- the letters of a list of values
abbrev pub letters : List (ℕ → Bool) → List Letter
letters vs = map (λ v. Some v) vs

-- some non-empty prefix is accepted
abbrev pub HasAcceptedPrefix : {S : Type 0} → Machine S → List (ℕ → Bool) → Type 0
HasAcceptedPrefix m vs = (p : List (ℕ → Bool)) × (q : List (ℕ → Bool)) × (vs ≡ p ++ q) × (p ≢ []) × Accepts m
    (letters p)

-- the list is accepted with some list of tops after it, maybe the empty one
abbrev pub CanBeAccepted : {S : Type 0} → Machine S → List (ℕ → Bool) → Type 0
CanBeAccepted m vs = (n : ℕ) × Accepts m (letters vs ++ replicate n None)

-- From row 0 a list leads to Done, a non-empty list to Fail, and a non-empty list to a row exactly as said. The empty
-- list leads to row 0, which is there.
pub record TellsFirstFailure {S : Type 0} (m : Machine S) (auto : FailAuto) : Type 0 where
  pub first : 0 < length auto.rows
  pub done : (vs : List (ℕ → Bool)) → (lead auto (Go 0) vs ≡ Done) ↔ HasAcceptedPrefix m vs
  pub fail : (vs : List (ℕ → Bool)) → vs ≢ [] → (lead auto (Go 0) vs ≡ Fail) ↔ ((¬ HasAcceptedPrefix m vs) ×
      (¬ CanBeAccepted m vs))
  pub row : (vs : List (ℕ → Bool)) → vs ≢ [] → IsRow auto (lead auto (Go 0) vs) ↔ ((¬ HasAcceptedPrefix m vs) ×
      CanBeAccepted m vs)

-- ---- automata of rows as such

-- each row has an entry for each of the values of its symbols, and each entry that goes on names a row
pub record IsWholeRow (auto : FailAuto) (row : FailRow) : Type 0 where
  pub entries : length row.next ≡ 2 ^ length row.symbols
  pub named : (n : ℕ) → Contains row.next (Go n) → n < length auto.rows

-- there is a row to begin in, and each row is whole
pub record IsWhole (auto : FailAuto) : Type 0 where
  pub first : 0 < length auto.rows
  pub each : All (IsWholeRow auto) auto.rows
