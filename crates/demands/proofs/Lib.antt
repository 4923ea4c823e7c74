pub mod Given
pub mod Setups
pub mod Calls
pub mod Plays
pub mod PlayLists
pub mod PlayEnds
pub mod RunProgram
pub mod Theorems
