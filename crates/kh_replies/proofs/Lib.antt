pub mod JonesLemmas
pub mod UnionReplies
