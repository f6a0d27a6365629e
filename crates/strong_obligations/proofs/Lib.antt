pub mod Counting
pub mod Growing
pub mod Opens
pub mod Sighting
pub mod Stages
