-- What is known of a text after some of its bytes.
use Rattle.std.specs.Prelude.{ℕ, suc, ◌+◌, ◌-◌, ◌≤◌, Bool, cond, List, [], ◌∷◌, ◌++◌, fold, length, Result, Ok, Err}
use Rattle.vcd_reader.specs.declared.waveform.VcdError.{VcdError}
use Rattle.vcd_reader.specs.inner.State.{State, start}
use Rattle.vcd_reader.specs.inner.Rules.{Step, next}
use Rattle.vcd_reader.specs.Tokens.{is_blank}
use Rattle.vcd_reader.specs.Telling.{Outcome, fault_at}
use Rattle.vcd_reader.specs.inner.Outcome.{at_text_end}

-- reads: so many bytes have come, the last of them without a blank, and the tokens before those led to the state;
-- fails: the first fault has come
pub data Scan : Type 0 where
  reads : (at : ℕ) → (part : List ℕ) → State → Scan
  fails : VcdError → Scan

-- a token that began at an offset ends here
abbrev pub stepped : (at from : ℕ) → Step → Scan
stepped at from (Ok s) = reads at [] s
stepped at from (Err fault) = fails (fault_at from fault)

-- the open token ends
abbrev pub close : Scan → Scan
close (reads at [] s) = reads at [] s
close (reads at (byte ∷ bytes) s) = stepped at (at - length (byte ∷ bytes)) (next s (byte ∷ bytes))
close (fails error) = fails error

abbrev pub past_blank : Scan → Scan
past_blank (reads at part s) = reads (at + 1) part s
past_blank (fails error) = fails error

abbrev pub past_ink : ℕ → Scan → Scan
past_ink byte (reads at part s) = reads (at + 1) (part ++ byte ∷ []) s
past_ink byte (fails error) = fails error

abbrev pub take_byte : Scan → ℕ → Scan
take_byte scan byte = cond (is_blank byte) (past_blank (close scan)) (past_ink byte scan)

unfoldable pub scan_from : Scan → List ℕ → Scan
scan_from scan bytes = fold take_byte scan bytes

abbrev pub first_scan : Scan
first_scan = reads 0 [] start

abbrev pub end_of : Scan → Outcome
end_of (reads at part s) = at_text_end at s
end_of (fails error) = Err error

-- the outcome where the text ends here
abbrev pub ended : Scan → Outcome
ended scan = end_of (close scan)

-- how many bytes have come, where no fault has
abbrev pub bytes_taken : Scan → ℕ
bytes_taken (reads at part s) = at
bytes_taken (fails error) = 0

-- the open token is a part of the bytes that have come
abbrev pub IsPartWithin : Scan → Type 0
IsPartWithin (reads at part s) = length part ≤ at
IsPartWithin (fails error) = Unit {0}
