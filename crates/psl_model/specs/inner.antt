-- What no reader has to believe: codes by which the logic stores trees, and by which the code compares and hashes them.
pub mod CodeParts
pub mod SameCode
pub mod ExprCode
pub mod SereCode
pub mod FormulaCode
pub mod Codes
pub mod ViewCode
pub mod Taken
pub mod ValidTest
