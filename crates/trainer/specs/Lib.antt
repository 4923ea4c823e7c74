pub mod Call
pub mod Answers
pub mod Run
pub mod Ready
pub mod PartsCode
