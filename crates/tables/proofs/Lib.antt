pub mod Counted
pub mod Names
pub mod Owners
pub mod Paths
pub mod Frees
pub mod Fills
pub mod Takes
pub mod Zeros
