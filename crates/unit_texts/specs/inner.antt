-- What no reader has to believe: parts of a unit's definition that are given already.
pub mod Given
