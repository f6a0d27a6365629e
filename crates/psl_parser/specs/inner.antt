-- What no reader has to believe: what the passes over the tokens carry along.
pub mod Walk
pub mod Names
