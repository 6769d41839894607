pub mod CodeRefusals
pub mod Parts
pub mod Inputs
pub mod InputStops
pub mod DiagramReplies
