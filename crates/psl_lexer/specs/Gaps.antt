-- What stands between tokens: this project's own blanks, and the comments of IEEE 1850-2010, 4.2.
--     IsGap bytes count     the first bytes, so many, are one blank or one comment
use Rattle.std.specs.Prelude.{◌≡◌, ℕ, ◌+◌, ◌<◌, ◌≤◌, ◌==◌, ◌||◌, ◌⊎◌, Bool, not, nat_eq, List, length, codes}
use Rattle.std.specs.Prelude.{slice_index, IsTrue}
use Rattle.std.specs.List.{prefix_len, starts_with}

-- space, tab, line feed or carriage return
abbrev pub is_blank : ℕ → Bool
is_blank byte = (byte == 32) || ((byte == 9) || ((byte == 10) || (byte == 13)))

-- any byte but a line feed
abbrev pub is_in_line : ℕ → Bool
is_in_line byte = not (byte == 10)

abbrev pub Begins : (bytes mark : List ℕ) → Type 0
Begins bytes mark = IsTrue (starts_with nat_eq bytes mark)

-- a comment opens here, whether it is closed or not
abbrev pub OpensComment : List ℕ → Type 0
OpensComment bytes = Begins bytes (codes "//") ⊎ Begins bytes (codes "/*")

-- `*/` stands at this place, behind the opening mark
pub record ClosesAt (bytes : List ℕ) (place : ℕ) : Type 0 where
  pub behind : 2 ≤ place
  pub within : place + 1 < length bytes
  pub star : slice_index bytes place ≡ 42
  pub slash : slice_index bytes (place + 1) ≡ 47

-- one blank
pub record IsBlank (bytes : List ℕ) (count : ℕ) : Type 0 where
  pub one : count ≡ 1
  pub within : 1 ≤ length bytes
  pub blank : IsTrue (is_blank (slice_index bytes 0))

-- the bytes before the next line feed or the end
pub record IsLineComment (bytes : List ℕ) (count : ℕ) : Type 0 where
  pub opened : Begins bytes (codes "//")
  pub line : count ≡ prefix_len is_in_line bytes

-- the bytes up to the first `*/`
pub record IsBlockComment (bytes : List ℕ) (count : ℕ) : Type 0 where
  pub opened : Begins bytes (codes "/*")
  pub last : ℕ
  pub closed : ClosesAt bytes last
  pub first : (sooner : ℕ) → sooner < last → ¬ ClosesAt bytes sooner
  pub all : count ≡ last + 2

-- the first bytes, so many, are a blank or a comment
abbrev pub IsGap : (bytes : List ℕ) (count : ℕ) → Type 0
IsGap bytes count = IsBlank bytes count ⊎ IsLineComment bytes count ⊎ IsBlockComment bytes count
