pub mod Asks
pub mod Turns
pub mod EventLines
pub mod Puzzles
pub mod Wholes
pub mod Theorems
