pub mod RankSums
pub mod OverFour
