pub mod Word
pub mod Sequence
pub mod SequenceSugar
pub mod Formula
pub mod FormulaSugar
pub mod Violation
pub mod Examples
