-- What no reader has to believe: parts of the answer for a unit that is given already.
pub mod Unmade
