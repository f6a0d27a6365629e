pub mod PortNames
pub mod UnitNames
