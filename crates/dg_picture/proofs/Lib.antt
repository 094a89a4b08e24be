pub mod DrawLemmas
pub mod DrawnLemmas
pub mod FollowLemmas
