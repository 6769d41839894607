pub mod States
pub mod Rows
pub mod Answering
pub mod Alone
pub mod Parts
