-- What no reader has to believe: the walk through the changes, and what the code's parts answer.
pub mod Rows
pub mod Walk
pub mod WalkView
pub mod PortView
pub mod TraceView
