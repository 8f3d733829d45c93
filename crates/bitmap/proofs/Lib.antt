-- The map of the argument.
--     Digit       the binary digits of one word, when one of them is set
--     BitSet      a block's bit in the map, when one is set: one word changes, by Digit
--     HeldCount   the ones of a list of words, and when a bit is set, by Digit and BitSet
--     SpareBits   the bits past the last block stand in one word, and that word decides, by Digit and BitSet
-- The proof of each function cites the file that has its facts.
pub mod Digit
pub mod BitSet
pub mod HeldCount
pub mod SpareBits
