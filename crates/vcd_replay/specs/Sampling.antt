-- The trace that is sampled from a waveform, and why there is none.
use Rattle.std.specs.Prelude.{◌≡◌, ℕ, ◌+◌, ◌<◌, ◌≤◌, ◌⊎◌, List, ◌∷◌, Some, Result, Ok, Err, length, slice_get}
use Rattle.psl_model.specs.declared.names.Signal.{Signal}
use Rattle.vcd_reader.specs.declared.waveform.Var.{Var}
use Rattle.vcd_reader.specs.declared.waveform.Change.{Change}
use Rattle.vcd_replay.specs.declared.trace.SampleError.{SampleError}
use Rattle.vcd_replay.specs.declared.trace.SampleError.TheVariants.{NoScope, MissingSignal, WidthDiffers, NoCycles}
use Rattle.vcd_replay.specs.declared.trace.SampleError.TheVariants.{UnknownValue, OutOfMemory}
use Rattle.vcd_replay.specs.Values.{Before, HasDigits, AreKnown, bits_value}
use Rattle.vcd_replay.specs.Edges.{AreEdges, BeginsAt}
use Rattle.vcd_replay.specs.Ports.{HasNoScope, HasScope, HasNoVariable, IsFor, DiffersInWidth, FirstFault}

-- what a trace is sampled from: a waveform's variables and changes, a scope, the clock's name, the wanted signals and
-- the number of edges that are skipped
pub record Source : Type 0 where
  pub vars : List Var
  pub changes : List Change
  pub scope : List ℕ
  pub clock : List ℕ
  pub wanted : List Signal
  pub skip : ℕ

-- the clock, of one bit, and the wanted signals
abbrev pub signals : Source → List Signal
signals s = record { name = s.clock; width = 1 } ∷ s.wanted

-- the clock and the wanted signals are variables of the scope, and these are the edges
pub record IsThere (s : Source) (times : List ℕ) : Type 0 where
  pub clock : Var
  pub clock_is : IsFor s.vars s.scope (record { name = s.clock; width = 1 }) clock
  pub each : (k : ℕ) (signal : Signal) → slice_get s.wanted k ≡ Some signal → (var : Var)
      × IsFor s.vars s.scope signal var
  pub edges : AreEdges s.changes clock.code times

-- the digits of a wanted signal in a cycle: the last before the edge's time
pub record Samples (s : Source) (times : List ℕ) (cycle port : ℕ) (digits : List ℕ) : Type 0 where
  pub time : ℕ
  pub begins : BeginsAt times s.skip cycle time
  pub signal : Signal
  pub stands : slice_get s.wanted port ≡ Some signal
  pub var : Var
  pub is : IsFor s.vars s.scope signal var
  pub holds : HasDigits s.changes var.code var.size (Before time) digits

-- the values of a cycle are those of its samples, which are known
pub record IsRow (s : Source) (times : List ℕ) (cycle : ℕ) (row : List ℕ) : Type 0 where
  pub wide : length row ≡ length s.wanted
  pub values : (port value : ℕ) → slice_get row port ≡ Some value
      → (digits : List ℕ) × Samples s times cycle port digits × AreKnown digits × (value ≡ bits_value digits)

-- the rows are the cycles behind the skipped edges, of which there is one at least
pub record IsTrace (s : Source) (rows : List (List ℕ)) : Type 0 where
  pub times : List ℕ
  pub there : IsThere s times
  pub some : s.skip < length times
  pub long : length rows + s.skip ≡ length times
  pub rows_are : (cycle : ℕ) (row : List ℕ) → slice_get rows cycle ≡ Some row → IsRow s times cycle row

-- a sample with x or z
abbrev pub IsUnknown : Source → (times : List ℕ) → (cycle port : ℕ) → Type 0
IsUnknown s times cycle port = (digits : List ℕ) × Samples s times cycle port digits × (¬ AreKnown digits)

-- a cycle and a port come before others: an earlier cycle, or the same and an earlier port
abbrev pub ComesBefore : (cycle port other_cycle other_port : ℕ) → Type 0
ComesBefore cycle port other_cycle other_port = (cycle < other_cycle) ⊎ ((cycle ≡ other_cycle) × (port < other_port))

-- the first sample with x or z
pub record FirstUnknown (s : Source) (cycle : ℕ) (name : List ℕ) : Type 0 where
  pub times : List ℕ
  pub there : IsThere s times
  pub port : ℕ
  pub signal : Signal
  pub stands : slice_get s.wanted port ≡ Some signal
  pub named : signal.name ≡ name
  pub unknown : IsUnknown s times cycle port
  pub first : (n p : ℕ) → ComesBefore n p cycle port → ¬ IsUnknown s times n p

pub record HasNoCycles (s : Source) : Type 0 where
  pub times : List ℕ
  pub there : IsThere s times
  pub none : length times ≤ s.skip

-- what a call answers, if memory was there
abbrev pub Answers : Source → Result (List (List ℕ)) SampleError → Type 0
Answers s (Ok rows) = IsTrace s rows
Answers s (Err NoScope) = HasNoScope s.vars s.scope
Answers s (Err (MissingSignal name)) = HasScope s.vars s.scope
    × FirstFault s.vars s.scope (signals s) (λ signal. HasNoVariable s.vars s.scope signal.name) name
Answers s (Err (WidthDiffers name)) = HasScope s.vars s.scope
    × FirstFault s.vars s.scope (signals s) (DiffersInWidth s.vars s.scope) name
Answers s (Err NoCycles) = HasNoCycles s
Answers s (Err (UnknownValue cycle name)) = FirstUnknown s cycle name
Answers s (Err OutOfMemory) = Unit {0}
