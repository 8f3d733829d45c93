pub mod Asked
pub mod Walk
pub mod Reads
