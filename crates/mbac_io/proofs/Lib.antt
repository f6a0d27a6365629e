pub mod DeviceLemmas
pub mod FileLemmas
