pub mod LessMarks
pub mod EdgeTurns
pub mod CubeTurns
pub mod TurnsTwice
pub mod MarkedHalves
pub mod TwoElements
