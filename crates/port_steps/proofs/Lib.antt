pub mod Names
pub mod Booleans
pub mod Cores
pub mod Places
