use Rattle.std.proofs.Common.{ℕ, ◌+◌, ◌%◌, ap}
use Rattle.std.specs.Int.Count.{ones-ones}
use Rattle.psl_model.proofs.values.a_reduction_stands_by_itself.Goals as goal

pub returns-clause-parity : goal.returns-clause-parity
returns-clause-parity c = ap (λ (n : ℕ). (n % 2 + 15) % 16) (ones-ones 2)
