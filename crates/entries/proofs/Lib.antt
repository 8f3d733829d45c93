-- Entries of one width: how they lie where they fill a tag (Filled), one of them by its number (EntryElement), judging them by their numbers
-- (EntriesRange), and tags that agree on bytes of them (EntriesAgree).
pub mod Filled
pub mod EntryElement
pub mod EntriesRange
pub mod EntriesAgree
