pub mod CoefficientLemmas
pub mod CircleLemmas
pub mod StateSumLemmas
pub mod TermLemmas
pub mod TermTexts
pub mod KindLemmas
