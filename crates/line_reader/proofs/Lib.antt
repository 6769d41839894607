pub mod Taken
mod KeptLines
mod LineTakings
mod LineReads
