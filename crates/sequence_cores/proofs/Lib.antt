pub mod Told
pub mod Copies
pub mod Words
pub mod Counts
