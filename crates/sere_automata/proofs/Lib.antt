pub mod ConcatWords
pub mod Counts
pub mod Either
pub mod Follow
pub mod LeafPlaces
pub mod LeafWords
pub mod OneOfWords
pub mod RepeatWords
