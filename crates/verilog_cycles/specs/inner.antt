-- What no reader has to believe: how the machine keeps a module's expressions.
pub mod Nodes
pub mod Ready
pub mod Program
pub mod StateCode
