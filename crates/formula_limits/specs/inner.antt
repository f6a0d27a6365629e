-- What the private functions say of themselves. No public clause cites these definitions.
pub mod Counted
