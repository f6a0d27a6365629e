pub mod Places
pub mod Marks
pub mod OpenPhrases
pub mod Depth
pub mod Seen
pub mod inner
