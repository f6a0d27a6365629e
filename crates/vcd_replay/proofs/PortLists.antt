-- The codes of a list of signals, and the first signal with a fault.
use Rattle.std.proofs.Common.{◌≡◌, ℕ, ◌+◌, ◌<◌, inl, inr, List, [], ◌∷◌, ◌++◌, Option, Some, None, Err, length, get_or}
use Rattle.std.proofs.Common.{refl, sym, ◌∙◌, ap, subst, arith}
use Rattle.std.specs.Prelude.{slice_get}
use Rattle.std.proofs.lemmas.Option.{slice_get-get_or}
use Rattle.std.proofs.lemmas.List.{length_push}
use Rattle.psl_model.specs.declared.names.Signal.{Signal}
use Rattle.vcd_reader.specs.declared.waveform.Var.{Var}
use Rattle.vcd_replay.specs.declared.trace.SampleError.{SampleError}
use Rattle.vcd_replay.specs.declared.trace.SampleError.TheVariants.{NoScope, MissingSignal, WidthDiffers, NoCycles}
use Rattle.vcd_replay.specs.declared.trace.SampleError.TheVariants.{UnknownValue, OutOfMemory}
use Rattle.vcd_replay.specs.Ports.{IsFor}
use Rattle.vcd_replay.specs.inner.PortView.{IsPort, AnswersPort, HasPortFault}
use Rattle.vcd_replay.proofs.Walking.{slice_get_push_cases}
use Rattle.vcd_replay.proofs.Tables.{number_or}

abbrev pub signal_or : Signal → Option Signal → Signal
signal_or other None = other
signal_or other (Some signal) = signal

-- the first signals have codes
pub record ArePortsSoFar (vars : List Var) (scope : List ℕ) (signals : List Signal) (count : ℕ) (codes : List ℕ) :
    Type 0 where
  pub wide : length codes ≡ count
  pub each : (k code : ℕ) → slice_get codes k ≡ Some code → (signal : Signal) × (slice_get signals k ≡ Some signal)
      × IsPort vars scope signal code

pub ports_start : (vars : List Var) (scope : List ℕ) (signals : List Signal) → ArePortsSoFar vars scope signals 0 []
ports_start vars scope signals = record { wide = refl; each = λ k code at. absurd cc }

pub ports_grow : (vars : List Var) (scope : List ℕ) (signals : List Signal) (count code : ℕ) (codes : List ℕ)
    (signal : Signal)
    → ArePortsSoFar vars scope signals count codes → slice_get signals count ≡ Some signal
    → IsPort vars scope signal code
    → ArePortsSoFar vars scope signals (count + 1) (codes ++ code ∷ [])
ports_grow vars scope signals count code codes signal p here is = record {
  wide = length_push codes code ∙ ap (λ (n : ℕ). n + 1) p.wide;
  each = λ k other at. elim (slice_get_push_cases codes code k other at) [
    | inl old ↦ p.each k other old
    | inr now ↦ (
      signal,
      ap (slice_get signals) (now.0 ∙ p.wide) ∙ here,
      subst (IsPort vars scope signal) (ap (number_or code) now.1) is,
    )
  ];
}

fine_so_far : (vars : List Var) (scope : List ℕ) (signals : List Signal) (count : ℕ) (codes : List ℕ)
    → ArePortsSoFar vars scope signals count codes
    → (k : ℕ) (other : Signal) → k < count → slice_get signals k ≡ Some other → (var : Var) × IsFor vars scope other var
fine_so_far vars scope signals count codes p k other low at =
    let here : slice_get codes k ≡ Some (get_or codes k 0) = slice_get-get_or codes k 0 (omega (arith, p.wide)) in
    let is = p.each k (get_or codes k 0) here in
    let both : Some is.0 ≡ Some other = sym is.1 ∙ at in
    subst (λ (s : Signal). (var : Var) × IsFor vars scope s var) (ap (signal_or other) both) ((is.2).0, (is.2).1)

pub fault_is_first : (vars : List Var) (scope : List ℕ) (signals : List Signal) (count : ℕ) (codes : List ℕ)
    (signal : Signal) (error : SampleError)
    → ArePortsSoFar vars scope signals count codes → slice_get signals count ≡ Some signal
    → AnswersPort vars scope signal (Err error)
    → HasPortFault vars scope signals error
fault_is_first vars scope signals count codes signal (MissingSignal name) p here h = record {
  place = count;
  stands = here;
  named = h.1;
  signal = signal;
  fault = h.0;
  fine_before = fine_so_far vars scope signals count codes p;
}
fault_is_first vars scope signals count codes signal (WidthDiffers name) p here h = record {
  place = count;
  stands = here;
  named = h.1;
  signal = signal;
  fault = h.0;
  fine_before = fine_so_far vars scope signals count codes p;
}
fault_is_first vars scope signals count codes signal OutOfMemory p here h = h
fault_is_first vars scope signals count codes signal NoScope p here h = h
fault_is_first vars scope signals count codes signal NoCycles p here h = h
fault_is_first vars scope signals count codes signal (UnknownValue cycle name) p here h = h
