pub mod Contexts
pub mod Fits
pub mod Moved
pub mod Shifts
pub mod ValidTests
pub mod Views
pub mod Wrapping
