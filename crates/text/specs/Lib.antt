pub mod Zero
pub mod Code
pub mod Text
pub mod Bytes
