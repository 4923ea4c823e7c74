pub mod Refuses
pub mod Play
pub mod RunProgram
