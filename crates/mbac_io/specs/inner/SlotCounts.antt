-- How the inputs keep their counts of faults.
use Rattle.mbac_io.specs.declared.slot_faults.SlotFaults.{SlotFaults}
use Rattle.mbac_io.specs.Faults.{SlotCounts}

abbrev pub counts_of : SlotFaults → SlotCounts
counts_of faults = record { first = faults.first; second = faults.second; others = faults.others }
