pub mod ZeroLemmas
pub mod DegreeRanks
pub mod RankSumLemmas
pub mod HistoryRanks
pub mod HistoryEnds
