pub mod Lines
pub mod DigitRuns
pub mod Decimals
pub mod Back
pub mod Lies
