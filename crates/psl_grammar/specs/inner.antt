-- What no reader has to believe: codes by which the logic stores trees.
pub mod Codes
