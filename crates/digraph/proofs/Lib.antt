mod CircleLaws
mod ListLaws
mod SearchLaws
mod WalkLaws
