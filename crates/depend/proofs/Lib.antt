-- How the theorems of specs/Depend, specs/DependList and specs/DependLayout are proved.
--     PartAgree          images that agree on a page's relevant bytes agree on them in its part; the same of block 0
--     WalkAgree          images that agree on a table's relevant bytes have the same walk for it
--     FoundRowAgree      and the same record and texts of each row found
--     RelevantHeld       a relevant byte stands in a held block
--     UnnamedHeader      a byte of a page header outside its fields is not relevant
--     RelevantRead       so a relevant byte stands, on a page, outside those and the absent rows
--     InUseOnly          bytes past L and words past those in use change nothing
--     ListLength         of the list that comes with a question only the length does
--     Depend             the theorem about the questions, from these
--     ListAgree          images that agree on the relevant bytes of an element of a list give the same row
--     DependList         the theorem about reading from a list
--     DependLayout       the theorem about the layout and bounds
--     Examples           the examples, by computation
pub mod PartAgree
pub mod WalkAgree
pub mod FoundRowAgree
pub mod RelevantHeld
pub mod UnnamedHeader
pub mod RelevantRead
pub mod InUseOnly
pub mod ListLength
pub mod Depend
pub mod ListAgree
pub mod DependList
pub mod DependLayout
pub mod Examples
