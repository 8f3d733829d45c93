pub mod Command
pub mod State
pub mod Step
pub mod Text
