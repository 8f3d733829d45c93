pub mod Header
pub mod Index
pub mod Found
pub mod Read
pub mod Row
pub mod OneRow
pub mod Bytes
pub mod Private
