-- `read` tests what the rungs of `read_text` test, in the same order; `first_zero` searches forward (FirstZero).
-- TextInside: what is found lies inside the part that was read. TextAgree: the string depends on its relevant bytes alone.
-- LongText: what a long string is, once its size is read.
pub mod FirstZero
pub mod TextInside
pub mod TextAgree
pub mod LongText
