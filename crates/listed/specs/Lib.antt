pub mod Rank
pub mod Listed
