pub mod Bytes
pub mod Unread
pub mod Depend
pub mod ListBytes
pub mod DependList
pub mod DependLayout
pub mod Examples
