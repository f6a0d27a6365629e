pub mod Both
pub mod Fuse
pub mod Same
pub mod Sides
