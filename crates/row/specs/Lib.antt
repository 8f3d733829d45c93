pub mod Layout
pub mod Slot
pub mod Check
pub mod Record
pub mod Bytes
