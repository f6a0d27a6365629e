-- What the parts of a circuit say. No theorem hangs on reading these.
pub mod Nets
pub mod Edges
pub mod Moves
