pub mod Nodes
pub mod ReachedSets
pub mod inner
