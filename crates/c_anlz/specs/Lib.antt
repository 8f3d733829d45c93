-- What C is answered about an ANLZ file.
pub mod Replies
