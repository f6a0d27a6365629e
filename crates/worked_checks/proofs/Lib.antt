pub mod LawfulModules
pub mod LetterPorts
pub mod PortNames
pub mod SetNexts
