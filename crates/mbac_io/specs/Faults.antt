-- Counts of faults, each of which stands still at the end of its type.
use Rattle.std.specs.Prelude.{◌≢◌, ℕ, ◌+◌, ◌<◌, ◌==◌, ◌⊎◌, min, if◌then◌else◌}

-- one more, or the end of the type
abbrev pub next_count : ℕ → ℕ
next_count count = min (count + 1) 18446744073709551615

-- how many faults the slots have met: 0 and 1 have a count of their own, all others have one together
pub record SlotCounts : Type 0 where
  pub first : ℕ
  pub second : ℕ
  pub others : ℕ

abbrev pub faults_of : SlotCounts → ℕ → ℕ
faults_of counts slot = if slot == 0 then counts.first else (if slot == 1 then counts.second else counts.others)

-- one of two slots is slot 0 or 1, so a fault of the one leaves the count of the other
abbrev pub AreCountedApart : ℕ → ℕ → Type 0
AreCountedApart slot other = (other ≢ slot) × ((slot < 2) ⊎ (other < 2))
