pub mod Fault
pub mod Answer
