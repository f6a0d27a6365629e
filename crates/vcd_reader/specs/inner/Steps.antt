-- What a function of the code says of a step.
use Rattle.std.specs.Prelude.{◌≡◌, Result, Ok, Err}
use Rattle.vcd_reader.specs.declared.reading.StepError.{StepError}
use Rattle.vcd_reader.specs.declared.reading.StepError.TheVariants as errors
use Rattle.vcd_reader.specs.inner.State.{State}
use Rattle.vcd_reader.specs.inner.Rules.{Step}

abbrev pub Fails : StepError → Step → Type 0
Fails errors.Memory step = Unit {0}
Fails (errors.Fault fault) step = step ≡ Err fault

-- the step leads to the state that is there after an Ok; its fault comes, or memory ran out, at an Err
abbrev pub Gives : {X : Type 0} → Result X StepError → State → Step → Type 0
Gives (Ok _) after step = step ≡ Ok after
Gives (Err error) after step = Fails error step
