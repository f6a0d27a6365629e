pub mod Streams
pub mod Joining
