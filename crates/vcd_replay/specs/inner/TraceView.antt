-- What a trace is in terms of codes and edges.
use Rattle.std.specs.Prelude.{◌≡◌, ℕ, ◌+◌, ◌<◌, ◌≤◌, List, Result, Ok, Err, Some, length, slice_get}
use Rattle.psl_model.specs.declared.names.Signal.{Signal}
use Rattle.vcd_reader.specs.declared.waveform.Change.{Change}
use Rattle.vcd_replay.specs.declared.edges.Edge.{Edge}
use Rattle.vcd_replay.specs.declared.trace.SampleError.{SampleError}
use Rattle.vcd_replay.specs.declared.trace.SampleError.TheVariants.{NoScope, MissingSignal, WidthDiffers, NoCycles}
use Rattle.vcd_replay.specs.declared.trace.SampleError.TheVariants.{UnknownValue, OutOfMemory}
use Rattle.vcd_replay.specs.Sampling.{ComesBefore}
use Rattle.vcd_replay.specs.inner.Walk.{HasEdges, AreValues, IsBlank, IsFull}

-- the rows are those of the edges behind the skipped ones
pub record TracesEdges (changes : List Change) (clock : ℕ) (codes : List ℕ) (skip : ℕ) (trace : List (List ℕ)) :
    Type 0 where
  pub edges : List Edge
  pub are : HasEdges changes clock edges
  pub some : skip < length edges
  pub long : length trace + skip ≡ length edges
  pub rows_are : (n : ℕ) (row : List ℕ) → slice_get trace n ≡ Some row
      → (edge : Edge) × (slice_get edges (skip + n) ≡ Some edge) × AreValues changes codes edge.start row

-- all edges are skipped
pub record SkipsEdges (changes : List Change) (clock skip : ℕ) : Type 0 where
  pub edges : List Edge
  pub are : HasEdges changes clock edges
  pub none : length edges ≤ skip

-- the first port without a value has that name
pub record HasBlank (changes : List Change) (clock : ℕ) (codes : List ℕ) (wanted : List Signal) (skip cycle : ℕ)
    (name : List ℕ) : Type 0 where
  pub edges : List Edge
  pub are : HasEdges changes clock edges
  pub edge : Edge
  pub begins : slice_get edges (skip + cycle) ≡ Some edge
  pub port : ℕ
  pub signal : Signal
  pub stands : slice_get wanted port ≡ Some signal
  pub named : signal.name ≡ name
  pub blank : IsBlank changes codes edge.start port
  pub full : (n p : ℕ) (other : Edge) → ComesBefore n p cycle port → slice_get edges (skip + n) ≡ Some other
      → IsFull changes codes other.start p

-- what a walk over the changes answers
abbrev pub AnswersTrace : List Change → (clock : ℕ) → (codes : List ℕ) → List Signal → (skip : ℕ)
    → Result (List (List ℕ)) SampleError → Type 0
AnswersTrace changes clock codes wanted skip (Ok rows) = TracesEdges changes clock codes skip rows
AnswersTrace changes clock codes wanted skip (Err NoCycles) = SkipsEdges changes clock skip
AnswersTrace changes clock codes wanted skip (Err (UnknownValue cycle name)) =
    HasBlank changes clock codes wanted skip cycle name
AnswersTrace changes clock codes wanted skip (Err OutOfMemory) = Unit {0}
AnswersTrace changes clock codes wanted skip (Err NoScope) = ⊥
AnswersTrace changes clock codes wanted skip (Err (MissingSignal name)) = ⊥
AnswersTrace changes clock codes wanted skip (Err (WidthDiffers name)) = ⊥
