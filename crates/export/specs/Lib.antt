pub mod OwnFault
pub mod Rows
pub mod Row
pub mod Record
pub mod Text
pub mod FromList
pub mod Layout
pub mod Private
