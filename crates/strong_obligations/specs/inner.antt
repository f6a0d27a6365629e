-- What the steps of a chain say. No theorem hangs on reading these.
pub mod Counts
pub mod Delays
