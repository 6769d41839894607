pub mod Statuses
pub mod Replies
pub mod Refusals
pub mod LimitedReplies
pub mod Told
pub mod Runs
pub mod Homology
