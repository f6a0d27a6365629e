-- What a call does to the bytes that an object tells, and to its count of faults. An object tells its
-- bytes (`Some`) or not (`None`); one that tells them at the end of a call told them at its beginning,
-- and each fact here speaks of an object that tells them at the end.
use Rattle.std.specs.Prelude.{◌≡◌, ℕ, ◌<◌, ◌⊎◌, List, [], ◌++◌, length, take, IfSome, IsSomeAnd, Option, Some}

-- a count of faults rose: it is greater, or stands at the end of its type
abbrev pub Rose : ℕ → ℕ → Type 0
Rose before after = (before < after) ⊎ (after ≡ 18446744073709551615)

-- the fact about the bytes at the beginning of the call
abbrev pub WhereTold : Option (List ℕ) → Option (List ℕ) → (List ℕ → Type 0) → Type 0
WhereTold before after P = IfSome after (λ _. IsSomeAnd before P)

-- the bytes stay as they were
abbrev pub Keeps : Option (List ℕ) → Option (List ℕ) → Type 0
Keeps before after = IfSome after (λ bytes. before ≡ Some bytes)

-- what is left has lost these bytes from its front
abbrev pub Takes : Option (List ℕ) → Option (List ℕ) → List ℕ → Type 0
Takes before after bytes = IfSome after (λ rest. before ≡ Some (bytes ++ rest))

-- what is left has lost some bytes from its front, maybe none
abbrev pub TakesSome : Option (List ℕ) → Option (List ℕ) → Type 0
TakesSome before after = (bytes : List ℕ) × Takes before after bytes

-- these bytes were all that was left, and nothing is left now
abbrev pub TakesAll : Option (List ℕ) → Option (List ℕ) → List ℕ → Type 0
TakesAll before after bytes = IfSome after (λ rest. (rest ≡ []) × (before ≡ Some bytes))

-- nothing is left
abbrev pub IsAtEnd : Option (List ℕ) → Type 0
IsAtEnd left = IfSome left (λ rest. rest ≡ [])

-- what was taken has grown by these bytes
abbrev pub Appends : Option (List ℕ) → Option (List ℕ) → List ℕ → Type 0
Appends before after bytes = IfSome after (λ taken. IsSomeAnd before (λ earlier. taken ≡ earlier ++ bytes))

-- what was taken has grown by the first of these bytes, and not by all
abbrev pub AppendsPart : Option (List ℕ) → Option (List ℕ) → List ℕ → Type 0
AppendsPart before after bytes = (count : ℕ) × (count < length bytes) × Appends before after (take count bytes)
