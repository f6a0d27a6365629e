pub mod Words
pub mod Always
pub mod Order
pub mod Repeat
