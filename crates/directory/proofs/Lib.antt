-- How the directory's functions are proved, and what the chain needs of them.
--     PointersKept           the array of pointers, one pointer after another
--     TypesSeen      the search for two pointers of one type, with the types seen in a word
--     FindAmong      the search for a table's pointer
--     GoodHeader     what a header that is not broken says of its numbers
--     ChainAnswer    what is known of a table's chain, and of its refusals
--     HeaderAgree          two first blocks that agree on the relevant bytes give the same chain
pub mod PointersKept
pub mod TypesSeen
pub mod FindAmong
pub mod GoodHeader
pub mod ChainAnswer
pub mod HeaderAgree
