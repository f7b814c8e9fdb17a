mod AnyLaws
mod PlaceLaws
mod SpanLaws
mod PlacingLaws
mod WakingLaws
mod ReadingLaws
