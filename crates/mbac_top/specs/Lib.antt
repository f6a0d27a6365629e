pub mod Words
pub mod Call
pub mod Causes
pub mod Compile
pub mod Messages
pub mod inner
