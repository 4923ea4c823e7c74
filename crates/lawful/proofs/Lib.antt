pub mod Hints
pub mod Absent
pub mod Alls
pub mod Strays
pub mod Tallies
pub mod Wholes
