pub mod Run
pub mod Reading
pub mod Private
