pub mod Parts
pub mod Beginnings
pub mod Marks
pub mod Numbers
pub mod Numbered
pub mod Telling
