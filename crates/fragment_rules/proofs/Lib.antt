mod IndexLaws
mod SizeLaws
mod ChoiceLaws
