-- What the private functions say of themselves. No public clause cites these definitions.
pub mod Among
pub mod Exploring
pub mod Lasts
pub mod Order
pub mod Rows
pub mod Searching
