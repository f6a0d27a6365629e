pub mod Ports
pub mod Units
