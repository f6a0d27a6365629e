pub mod Booleans
pub mod PlaceTable
pub mod Renamed
pub mod Steps
pub mod Words
pub mod inner
