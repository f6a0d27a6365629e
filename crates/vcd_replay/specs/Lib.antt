pub mod Values
pub mod Edges
pub mod Ports
pub mod Sampling
pub mod FirstFail
pub mod inner
