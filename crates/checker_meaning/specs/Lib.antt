pub mod Checks
pub mod Headline
pub mod NegationChecker
