pub mod Chosen
pub mod Over
pub mod inner
