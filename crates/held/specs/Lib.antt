pub mod Work
pub mod FollowCode
