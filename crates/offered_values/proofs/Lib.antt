mod DepthLaws
pub mod IntoLaws
pub mod NameLaws
