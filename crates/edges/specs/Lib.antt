pub mod Cases
pub mod Counts
pub mod Entries
pub mod Codes
pub mod Packets
