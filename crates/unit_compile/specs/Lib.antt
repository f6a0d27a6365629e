pub mod Offsets
pub mod Told
pub mod Directives
pub mod Made
pub mod Refused
pub mod inner
