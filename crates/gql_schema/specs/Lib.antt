pub mod Drafts
pub mod Ignored
pub mod Judged
pub mod Marks
pub mod Meaning
pub mod Repeated
pub mod Reserved
pub mod Texts
