mod EarlierLaws
pub mod LeastLaws
mod SeenLaws
pub mod TestLaws
