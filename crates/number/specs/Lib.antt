pub mod Number
pub mod Agree
