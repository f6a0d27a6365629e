pub mod Tests
pub mod Counted
pub mod Collected
pub mod Walking
pub mod Known
