pub mod Numbers
pub mod Ranged
pub mod Back
