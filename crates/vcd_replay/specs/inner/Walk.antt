-- How far a walk through the changes has come.
use Rattle.std.specs.Prelude.{◌≡◌, ℕ, ◌<◌, ◌≤◌, ◌⊎◌, List, [], ◌∷◌, ◌++◌, Option, Some, None, length, map, slice_get}
use Rattle.std.specs.Prelude.{slice_index_or}
use Rattle.vcd_reader.specs.declared.waveform.Change.{Change}
use Rattle.vcd_replay.specs.declared.edges.Edge.{Edge}
use Rattle.vcd_replay.specs.Values.{Before, AreKnown, bits_value}
use Rattle.vcd_replay.specs.Edges.{AreEdges}
use Rattle.vcd_replay.specs.inner.Rows.{rows, IsWhole}
use Rattle.vcd_replay.specs.Sampling.{ComesBefore}

-- the changes before the place are at such times, and no others
pub record Splits (changes : List Change) (InTime : ℕ → Type 0) (place : ℕ) : Type 0 where
  pub front : (k : ℕ) (change : Change) → slice_get changes k ≡ Some change → k < place → InTime change.time
  pub behind : (k : ℕ) (change : Change) → slice_get changes k ≡ Some change → place ≤ k → ¬ InTime change.time

-- the last change of a code before a place
abbrev pub IsLastIn : List Change → (code place : ℕ) → Option ℕ → Type 0
IsLastIn changes code place None = (k : ℕ) (change : Change) → slice_get changes k ≡ Some change → k < place
    → ¬ (change.code ≡ code)
IsLastIn changes code place (Some p) =
    (change : Change) × (slice_get changes p ≡ Some change) × (p < place) × (change.code ≡ code)
    × ((k : ℕ) (later : Change) → slice_get changes k ≡ Some later → p < k → k < place → ¬ (later.code ≡ code))

-- each change of the code has one digit
abbrev pub AreBits : List Change → (code : ℕ) → Type 0
AreBits changes code = (k : ℕ) (change : Change) → slice_get changes k ≡ Some change → change.code ≡ code
    → length change.digits ≡ 1

-- each change of the code has at most 64 digits
abbrev pub AreShort : List Change → (code : ℕ) → Type 0
AreShort changes code = (k : ℕ) (change : Change) → slice_get changes k ≡ Some change → change.code ≡ code
    → length change.digits ≤ 64

-- the digit of a code of one bit behind the changes before a place
abbrev pub IsDigit : List Change → (code place digit : ℕ) → Type 0
IsDigit changes code place digit =
    (IsLastIn changes code place None × (digit ≡ 120))
    ⊎ ((p : ℕ) × (h : IsLastIn changes code place (Some p)) × (h.0.digits ≡ digit ∷ []))

-- the edge is added exactly if the digit rises
abbrev pub IsNoted : (old new : List Edge) → (before digit : ℕ) → Edge → Type 0
IsNoted old new before digit edge =
    ((before ≡ 48) × (digit ≡ 49) × (new ≡ old ++ edge ∷ [])) ⊎ ((¬ ((before ≡ 48) × (digit ≡ 49))) × (new ≡ old))

abbrev pub times_of : List Edge → List ℕ
times_of edges = map (λ edge. edge.time) edges

-- these are the edges, each with the front of the changes before it
pub record HasEdges (changes : List Change) (clock : ℕ) (edges : List Edge) : Type 0 where
  pub edges_are : AreEdges changes clock (times_of edges)
  pub fronts : (k : ℕ) (edge : Edge) → slice_get edges k ≡ Some edge → Splits changes (Before edge.time) edge.start
      × (edge.start ≤ length changes)

-- a place of the last change so far stands at each code
abbrev pub IsTable : List Change → List (Option ℕ) → (place : ℕ) → Type 0
IsTable changes last place = (code : ℕ) → code < length last
    → IsLastIn changes code place (slice_index_or last code None)

-- the code's last digits before the place write a number
abbrev pub HasValue : List Change → (code place value : ℕ) → Type 0
HasValue changes code place value =
    (p : ℕ) × (h : IsLastIn changes code place (Some p)) × AreKnown h.0.digits × (value ≡ bits_value h.0.digits)

-- the code's last digits before the place have x or z
abbrev pub HasNoValue : List Change → (code place : ℕ) → Type 0
HasNoValue changes code place =
    IsLastIn changes code place None ⊎ ((p : ℕ) × (h : IsLastIn changes code place (Some p)) × (¬ AreKnown h.0.digits))

-- the values of the codes before the place
pub record AreValues (changes : List Change) (codes : List ℕ) (place : ℕ) (row : List ℕ) : Type 0 where
  pub wide : length row ≡ length codes
  pub each : (k value : ℕ) → slice_get row k ≡ Some value
      → (code : ℕ) × (slice_get codes k ≡ Some code) × HasValue changes code place value

-- the port has no value before the place
abbrev pub IsBlank : List Change → (codes : List ℕ) → (place port : ℕ) → Type 0
IsBlank changes codes place port = (code : ℕ) × (slice_get codes port ≡ Some code) × HasNoValue changes code place

-- the port has a value before the place
abbrev pub IsFull : List Change → (codes : List ℕ) → (place port : ℕ) → Type 0
IsFull changes codes place port =
    (code : ℕ) → slice_get codes port ≡ Some code → (value : ℕ) × HasValue changes code place value

-- what is put behind the values: a row, or else the port is the first without a value
abbrev pub IsRowOf : List Change → (codes : List ℕ) → (place : ℕ) → (old new : List ℕ) → Option ℕ → Type 0
IsRowOf changes codes place old new None = (row : List ℕ) × (new ≡ old ++ row) × AreValues changes codes place row
IsRowOf changes codes place old new (Some port) =
    IsBlank changes codes place port × ((p : ℕ) → p < port → IsFull changes codes place p)

-- no start is behind a later one, or behind the changes
pub record AreFronts (changes : List Change) (edges : List Edge) : Type 0 where
  pub within : (k : ℕ) (edge : Edge) → slice_get edges k ≡ Some edge → edge.start ≤ length changes
  pub rising : (j k : ℕ) (earlier later : Edge) → slice_get edges j ≡ Some earlier → slice_get edges k ≡ Some later
      → j < k → earlier.start ≤ later.start

-- the values lie row by row, one row an edge
pub record AreSampled (changes : List Change) (edges : List Edge) (codes : List ℕ) (count : ℕ) (values : List ℕ) :
    Type 0 where
  pub whole : IsWhole (length codes) count values
  pub rows_are : (n : ℕ) (row : List ℕ) → slice_get (rows (length codes) count values) n ≡ Some row
      → (edge : Edge) × (slice_get edges n ≡ Some edge) × AreValues changes codes edge.start row

-- the port of the cycle is the first without a value
pub record IsFirstBlank (changes : List Change) (edges : List Edge) (codes : List ℕ) (cycle port : ℕ) : Type 0 where
  pub edge : Edge
  pub stands : slice_get edges cycle ≡ Some edge
  pub blank : IsBlank changes codes edge.start port
  pub full : (n p : ℕ) (other : Edge) → ComesBefore n p cycle port → slice_get edges n ≡ Some other
      → IsFull changes codes other.start p
