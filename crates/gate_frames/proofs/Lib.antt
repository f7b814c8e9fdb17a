pub mod DepthLaws
pub mod FollowUpLaws
