pub mod Buffers
pub mod Setup
pub mod Lines
pub mod PartsCode
