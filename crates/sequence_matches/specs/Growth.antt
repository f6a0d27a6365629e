-- How a netlist grows by some registers, of which only the most is told.
--     GrowsWithin old new most    extends, by at most so many registers, each with its next
use Rattle.std.specs.Prelude.{ℕ, ◌+◌, ◌≤◌, length}
use Rattle.circuit_core.specs.Netlist.{Netlist}
use Rattle.circuit_core.specs.Growth.{Extends, HaveNexts}

pub record GrowsWithin (old new : Netlist) (most : ℕ) : Type 0 where
  pub kept : Extends old new
  pub count : length new.registers ≤ length old.registers + most
  pub nexts : HaveNexts new (length old.registers)
