-- Definitions that only private contracts cite.
pub mod Judging
pub mod TablesView
pub mod WalkView
pub mod Reckoned
pub mod MeasuredView
pub mod MeasureLimits
