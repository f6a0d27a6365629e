-- What only private clauses cite: the code's own structures. No theorem hangs on reading these.
pub mod SlotCounts
