-- Answers about an ANLZ file depend on sections of their own code: the bytes of these (Bytes), and that they decide the answers (Depend).
pub mod Bytes
pub mod Depend
