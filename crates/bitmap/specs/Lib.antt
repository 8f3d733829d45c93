pub mod Words
pub mod Bit
pub mod Count
pub mod Spare
