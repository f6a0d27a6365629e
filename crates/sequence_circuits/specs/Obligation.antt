-- How the runs of an automaton of rows come out, over what the guards show.
use Rattle.std.specs.Prelude.{ℕ, ◌≡◌, Bool}
use Rattle.first_failure.specs.declared.automaton.Next.TheVariants.{Fail, Go}
use Rattle.first_failure.specs.declared.automaton.FailAuto.{FailAuto}
use Rattle.first_failure.specs.FirstFailure.{lead}
use Rattle.sequence_circuits.specs.Guards.{cycles_to}

-- the run from row 0 that begins in cycle i comes to a failure by cycle m
abbrev pub HasFailed : FailAuto → (values : ℕ → ℕ → Bool) → (i m : ℕ) → Type 0
HasFailed auto values i m = lead auto (Go 0) (cycles_to values i m) ≡ Fail

-- it is still in a row after cycle m: it has neither failed nor come to its end
abbrev pub GoesOn : FailAuto → (values : ℕ → ℕ → Bool) → (i m : ℕ) → Type 0
GoesOn auto values i m = (t : ℕ) × (lead auto (Go 0) (cycles_to values i m) ≡ Go t)
