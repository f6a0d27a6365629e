pub mod Behind
pub mod One
