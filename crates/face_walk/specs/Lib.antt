pub mod AddedArcs
pub mod ClassNumbers
pub mod FaceNumbers
pub mod Numbered
