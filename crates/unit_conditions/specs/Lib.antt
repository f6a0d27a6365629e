pub mod ReportText
pub mod Labels
