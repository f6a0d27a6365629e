pub mod Built
pub mod Units
pub mod Refusals
pub mod inner
