-- ANLZ files.
--     Fault                      the numbers of their refusals
--     Header, Section            the fields of the two envelopes, and when they are not broken
--     Sections                   the sections in file order
--     SectionsFill, Long         what holds of them
--     First, All                 the first section with a code, and every one
--     Element                    an element of a list by its number
--     Bytes                      the bytes that the sections depend on, and the bytes of a section
pub mod Fault
pub mod Header
pub mod Section
pub mod Sections
pub mod SectionsFill
pub mod Long
pub mod First
pub mod All
pub mod Element
pub mod Bytes
