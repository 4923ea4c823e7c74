pub mod Cells
pub mod Follows
pub mod Closing
pub mod Tracks
pub mod Clears
