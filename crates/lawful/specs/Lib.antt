pub mod Rules
pub mod TallyCode
