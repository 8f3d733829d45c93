pub mod Header
pub mod Directory
pub mod Chain
pub mod Private
pub mod Bytes
