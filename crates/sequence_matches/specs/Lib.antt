pub mod Growth
pub mod Matches
