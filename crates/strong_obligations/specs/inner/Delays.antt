-- Streams that follow others a cycle later, and opposites, in so many cycles.
use Rattle.std.specs.Prelude.{ℕ, suc, ◌≡◌, ◌↔◌, ◌<◌}
use Rattle.circuit_core.specs.Run.{Stream, On}

-- off at first, and then what the other one was in the cycle before
pub record IsDelayed (cycles : ℕ) (from delayed : Stream) : Type 0 where
  pub begins : 0 < cycles → delayed 0 ≡ 0
  pub goes_on : (n : ℕ) → suc n < cycles → delayed (suc n) ≡ from n

-- on exactly where the other one is off
abbrev pub IsOpposite : (cycles : ℕ) → (one other : Stream) → Type 0
IsOpposite cycles one other = (n : ℕ) → n < cycles → On other n ↔ ¬ On one n
