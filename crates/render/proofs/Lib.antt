pub mod Writes
pub mod Digits
pub mod Lines
