-- Entries of one width that fill a section from byte `18` on: each entry (Entries), how they lie (Filled), a test of each (Every), and the
-- bytes that stand in them (Bytes).
pub mod Entries
pub mod Filled
pub mod Every
pub mod Bytes
