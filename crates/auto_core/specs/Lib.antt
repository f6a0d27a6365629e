pub mod Edges
pub mod Graph
pub mod LiteralSets
pub mod Machine
pub mod Splits
pub mod inner
