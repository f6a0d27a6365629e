pub mod Within
pub mod TokenOrder
pub mod Names
