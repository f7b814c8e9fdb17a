mod FollowLaws
mod GroupLaws
