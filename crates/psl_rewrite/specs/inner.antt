-- How the logic stores the trees. No theorem hangs on reading these.
pub mod Codes
