pub mod Subset
