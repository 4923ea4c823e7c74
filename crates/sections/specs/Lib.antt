pub mod Sizes
pub mod Sections
pub mod PartsCode
