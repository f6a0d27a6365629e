pub mod Conditions
pub mod Told
pub mod Starts
pub mod Refusals
