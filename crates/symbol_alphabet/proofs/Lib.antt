pub mod Found
pub mod Truth
pub mod Labels
pub mod Made
