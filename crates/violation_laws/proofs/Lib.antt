pub mod Words
pub mod Nexts
pub mod Untils
pub mod Matches
