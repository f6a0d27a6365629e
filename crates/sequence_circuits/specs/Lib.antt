pub mod Guards
pub mod Detection
pub mod Obligation
pub mod inner
