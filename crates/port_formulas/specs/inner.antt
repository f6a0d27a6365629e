-- What no reader has to believe: what the code's tables say.
pub mod Marks
pub mod Table
