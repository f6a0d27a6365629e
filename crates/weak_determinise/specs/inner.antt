-- What the private functions say of themselves. No public clause cites these definitions.
pub mod Among
pub mod Expanding
pub mod Moving
pub mod Numbers
pub mod Stepping
