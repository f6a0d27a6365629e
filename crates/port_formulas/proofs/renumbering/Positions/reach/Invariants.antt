use Rattle.std.proofs.Common.{◌≡◌, ◌-◌, ℕ, suc, length}
use Rattle.port_formulas.specs.inner.Table.{told}
use Rattle.port_formulas.proofs.renumbering.Positions.reach.Given as goal

abbrev pub invariant-loop-self : goal.invariant-loop-self
invariant-loop-self l = record {
  absent : l.self.absent ≡ l.initial.self.absent;
  kept : (other : ℕ) → told l.self other ≡ told l.initial.self other;
}

abbrev pub decreases-loop-self : goal.decreases-loop-self
decreases-loop-self l = suc l.signal - length l.self.table.items
