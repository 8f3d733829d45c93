-- How the theorem of specs/Depend is proved: sections that agree on width and number have the same entry k (EntryAgree), and so have files
-- with them (Depend). The examples hold by computation (Examples).
pub mod EntryAgree
pub mod Depend
pub mod Examples
