-- How the code of crate `waveform` meets its contracts, and where an entry stands that is answered.
--     SectionAsked     a question is one about the first section of the sort
--     EntryIn          entry k of a section, by the tests of the code
--     Place            where it stands in the file
pub mod SectionAsked
pub mod EntryIn
pub mod Place
