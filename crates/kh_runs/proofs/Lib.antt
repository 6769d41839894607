pub mod StatusLemmas
pub mod LimitedAnswers
pub mod SourceAnswers
pub mod RunLemmas
pub mod WrittenHomology
