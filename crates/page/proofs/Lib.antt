-- IndexStep: what one entry more adds to the row index.
-- `RowIndex::read` reads the index (RowEntries). EntriesInside takes its entries one at a time, PresentCount a group at a time.
-- `test_page` makes the tests of a page for `read` and `read_row` (PageTests). The loop of `RowIndex::read_rows` checks the rows (ReadLoop).
-- `fill` and `row_at` go through the same entries (FillLoop, RowLoop).
-- PageAnswer, OneRowAnswer: what an answer says of the page, and of one row. RowsFound: what is known of the entries of rows and of faults.
-- PageAgree: the answer depends on the relevant bytes alone.
pub mod IndexStep
pub mod EntriesInside
pub mod PresentCount
pub mod RowEntries
pub mod PageTests
pub mod ReadLoop
pub mod FillLoop
pub mod RowLoop
pub mod RowsFound
pub mod PageAnswer
pub mod OneRowAnswer
pub mod PageAgree
