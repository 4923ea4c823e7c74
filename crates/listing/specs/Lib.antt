pub mod Call
pub mod ReplayCode
pub mod CollectCode
pub mod AnswerCode
