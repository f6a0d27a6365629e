-- What the look-up of a signal answers.
use Rattle.std.specs.Prelude.{◌≡◌, ℕ, List, Result, Ok, Err, Some, length, slice_get}
use Rattle.psl_model.specs.declared.names.Signal.{Signal}
use Rattle.vcd_reader.specs.declared.waveform.Var.{Var}
use Rattle.vcd_replay.specs.declared.trace.SampleError.{SampleError}
use Rattle.vcd_replay.specs.declared.trace.SampleError.TheVariants.{NoScope, MissingSignal, WidthDiffers, NoCycles}
use Rattle.vcd_replay.specs.declared.trace.SampleError.TheVariants.{UnknownValue, OutOfMemory}
use Rattle.vcd_replay.specs.Ports.{HasNoVariable, IsFor, DiffersInWidth, FirstFault}

-- the code is that of the variable for the signal
abbrev pub IsPort : List Var → (scope : List ℕ) → Signal → (code : ℕ) → Type 0
IsPort vars scope signal code = (var : Var) × IsFor vars scope signal var × (var.code ≡ code)

-- the code of the signal's variable, or what is wrong with it
abbrev pub AnswersPort : List Var → (scope : List ℕ) → Signal → Result ℕ SampleError → Type 0
AnswersPort vars scope signal (Ok code) = IsPort vars scope signal code
AnswersPort vars scope signal (Err (MissingSignal name)) = HasNoVariable vars scope signal.name × (signal.name ≡ name)
AnswersPort vars scope signal (Err (WidthDiffers name)) = DiffersInWidth vars scope signal × (signal.name ≡ name)
AnswersPort vars scope signal (Err OutOfMemory) = Unit {0}
AnswersPort vars scope signal (Err NoScope) = ⊥
AnswersPort vars scope signal (Err NoCycles) = ⊥
AnswersPort vars scope signal (Err (UnknownValue cycle name)) = ⊥

-- the codes of the signals' variables, one for each signal
pub record ArePorts (vars : List Var) (scope : List ℕ) (signals : List Signal) (codes : List ℕ) : Type 0 where
  pub wide : length codes ≡ length signals
  pub each : (k code : ℕ) → slice_get codes k ≡ Some code → (signal : Signal) × (slice_get signals k ≡ Some signal)
      × IsPort vars scope signal code

-- why signals have no codes
abbrev pub HasPortFault : List Var → (scope : List ℕ) → List Signal → SampleError → Type 0
HasPortFault vars scope signals (MissingSignal name) =
    FirstFault vars scope signals (λ signal. HasNoVariable vars scope signal.name) name
HasPortFault vars scope signals (WidthDiffers name) = FirstFault vars scope signals (DiffersInWidth vars scope) name
HasPortFault vars scope signals OutOfMemory = Unit {0}
HasPortFault vars scope signals NoScope = ⊥
HasPortFault vars scope signals NoCycles = ⊥
HasPortFault vars scope signals (UnknownValue cycle name) = ⊥
