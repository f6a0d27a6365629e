use Rattle.std.specs.Prelude.{true, []}
use Rattle.auto_core.specs.Machine.{Machine}

-- one state, which accepts, and no step
abbrev pub empty_machine : Machine (Unit {0})
empty_machine = record { start = tt; accepts = λ _. true; edges = λ _. [] }
