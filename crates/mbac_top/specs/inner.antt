-- What only private clauses cite: the steps of the code's own parts. No theorem hangs on reading these.
pub mod Ending
