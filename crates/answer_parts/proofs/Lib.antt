pub mod EachLaws
pub mod HeightLaws
mod MemberLaws
mod PathLaws
