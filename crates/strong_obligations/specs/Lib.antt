pub mod Bits
pub mod Events
pub mod Next
pub mod Until
pub mod inner
