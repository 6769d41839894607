mod Runs
mod FirstBytes
mod Numbers
mod Pieces
mod PieceReads
mod Cuttings
pub mod CutReads
mod LexerSteps
pub mod GrammarLemmas
pub mod MachineLemmas
pub mod WrittenTexts
pub mod WrittenLines
pub mod Sections
mod SectionLoops
mod CutSections
pub mod LineCuts
pub mod WordCuts
pub mod NumeralReads
