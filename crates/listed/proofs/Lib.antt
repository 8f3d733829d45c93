-- How a row is found by an element of a list.
--     SamePage         a place lies on a page by where the page starts and ends
--     RunBack          the run before an element, counted from the element back
--     ListedRungs      which rung of `listed_row` answers, by the tests of the code
--     RunsInRows, RowsRanked     the rows that a walk finds have their numbers on their pages as ranks, so an element of their places names them
pub mod SamePage
pub mod RunBack
pub mod ListedRungs
pub mod RunsInRows
pub mod RowsRanked
