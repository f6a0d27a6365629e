-- What only private clauses cite: the module of a netlist, part by part. No theorem hangs on reading it.
pub mod Translation
