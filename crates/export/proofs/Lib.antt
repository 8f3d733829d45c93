-- How the questions are proved, and what the theorems about runs and about relevant bytes need of them.
--     WalkFaults                          the walk is refused by the file's own faults only
--     FoundRow                            the rows that the walk for a table finds
--     TablePlaces                         the rows on a table's chain are those found, and the places theirs
--     RowsAnswer, RowAnswer, RowPart      the answer of a question by what the walk counted
--     ListedStart, ListedRow              reading from a list: before and after the file header, and the row that an element names
--     LayoutStart                         what block 0 tells, before and after its header
--     Questions                           the three questions: the same answers, and the faults of the file's own
pub mod WalkFaults
pub mod FoundRow
pub mod RowsAnswer
pub mod RowAnswer
pub mod TablePlaces
pub mod RowPart
pub mod ListedStart
pub mod ListedRow
pub mod LayoutStart
pub mod Questions
