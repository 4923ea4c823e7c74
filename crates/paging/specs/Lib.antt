pub mod Numbers
pub mod Frame
pub mod Layout
pub mod Walk
pub mod Request
pub mod Sound
pub mod NotesCode
