pub mod Netlist
pub mod View
pub mod Codes
pub mod Run
pub mod WellMade
pub mod Growth
pub mod Starts
