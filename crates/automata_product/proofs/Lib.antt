pub mod BothWords
pub mod Counts
pub mod FusePlaces
pub mod FuseWords
pub mod Places
pub mod Put
