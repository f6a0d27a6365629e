pub mod Device
pub mod Faults
pub mod MemoryDevices
pub mod inner
