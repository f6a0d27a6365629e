pub mod Places
pub mod Registers
pub mod Steps
pub mod inner
