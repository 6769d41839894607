pub mod SquareLemmas
