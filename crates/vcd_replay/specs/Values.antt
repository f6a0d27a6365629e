-- The values of a waveform's variables over time (IEEE 1364-2005, 18.2.1).
use Rattle.std.specs.Prelude.{◌≡◌, ℕ, ◌+◌, ◌-◌, ◌*◌, ◌<◌, ◌≤◌, ◌⊎◌, cond, nat_eq, List, [], ◌∷◌, ◌++◌, Some, fold}
use Rattle.std.specs.Prelude.{length, slice_get, All}
use Rattle.std.specs.List.{repeat}
use Rattle.vcd_reader.specs.declared.waveform.Change.{Change}

-- times before this one
abbrev pub Before : ℕ → ℕ → Type 0
Before t time = time < t

-- times up to this one, itself included
abbrev pub UpTo : ℕ → ℕ → Type 0
UpTo t time = time ≤ t

-- of the changes of a code at such times, this one is the last
pub record IsLast (changes : List Change) (code : ℕ) (InTime : ℕ → Type 0) (change : Change) : Type 0 where
  pub place : ℕ
  pub stands : slice_get changes place ≡ Some change
  pub same_code : change.code ≡ code
  pub in_time : InTime change.time
  pub none_later : (k : ℕ) (later : Change) → place < k → slice_get changes k ≡ Some later → later.code ≡ code
      → ¬ InTime later.time

-- no change of the code is at such a time
abbrev pub HasNone : List Change → (code : ℕ) → (ℕ → Type 0) → Type 0
HasNone changes code InTime = (k : ℕ) (change : Change) → slice_get changes k ≡ Some change → change.code ≡ code
    → ¬ InTime change.time

-- the digit that extends a value at the left: 0 for 0 and 1, and x or z for itself
abbrev pub extension : List ℕ → ℕ
extension [] = 48
extension (digit ∷ digits) = cond (nat_eq digit 49) 48 digit

-- the digits of a change at the size of its variable, in bits
abbrev pub extended : (size : ℕ) → List ℕ → List ℕ
extended size digits = repeat (size - length digits) (extension digits ∷ []) ++ digits

-- the digits of a variable behind the changes at such times, leftmost first: all are x before the first
abbrev pub HasDigits : List Change → (code size : ℕ) → (ℕ → Type 0) → List ℕ → Type 0
HasDigits changes code size InTime digits =
    (HasNone changes code InTime × (digits ≡ repeat size (120 ∷ [])))
    ⊎ ((change : Change) × IsLast changes code InTime change × (digits ≡ extended size change.digits))

-- no digit is x or z
abbrev pub AreKnown : List ℕ → Type 0
AreKnown digits = All (λ digit. (digit ≡ 48) ⊎ (digit ≡ 49)) digits

-- the number that known digits write
abbrev pub bits_value : List ℕ → ℕ
bits_value digits = fold (λ value digit. 2 * value + (digit - 48)) 0 digits
