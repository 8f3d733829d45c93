-- How the code of crate `anlz` meets its contracts, and what holds of the sections of a file.
--     FileStart                     where the sections start
--     NextSection                   what stands at a place: the end, a section whole inside the file, or a broken one
--     StepsEnough                   the steps of the definition suffice
--     FileFilled                    the sections fill the file
--     SectionsLoop                  going through the sections
--     FirstLoop                     going through them for a code
--     ElementAt                     an element of a list by its number
--     SectionsAgree                 files that agree on the envelopes have the same sections, and on bytes of a section such tags
pub mod FileStart
pub mod NextSection
pub mod StepsEnough
pub mod FileFilled
pub mod SectionsLoop
pub mod FirstLoop
pub mod ElementAt
pub mod SectionsAgree
