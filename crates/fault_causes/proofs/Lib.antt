pub mod Moments
pub mod RoseLaws
