-- With what every question begins, and what the theorems about runs and about relevant bytes need of it.
--     AskedTable        refusals 1 to 4 and 8 come first, and 19 for a string
--     SameBlocks        two memories by the blocks that they hold
--     TableWalk         the walk for a table: its cases, the same walk, a longer one
--     PageWalked        the pages that it reads
--     EachFound         what holds of each row on them holds of each row found
--     WalkStart         what is answered before the chain is walked
pub mod AskedTable
pub mod SameBlocks
pub mod TableWalk
pub mod PageWalked
pub mod EachFound
pub mod WalkStart
