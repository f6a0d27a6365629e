-- What no reader has to believe: the machine that the code is, token by token and byte by byte.
pub mod State
pub mod StateView
pub mod CodesView
pub mod Rules
pub mod Steps
pub mod Outcome
pub mod Scan
pub mod ScanView
