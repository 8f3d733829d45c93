-- The map of the argument.
--     RulesPassed   what is known where refusals 1 to 3, or 1 to 4, do not apply; a refusal answers, whatever follows
--     OpenClears    an opening that is not refused, from what the calls of `open` give: by RulesPassed
--     EqualBytes    the equality that `==` of two slices tests is that of specs/Equal
--     BlockBytes    a block's bytes in the image, and the image when a block is replaced
--     Verdict       each verdict from its case, what a verdict tells, and the outcome of each: by RulesPassed
--     NewAdds       what New adds, and that Same and refusals change nothing: by Verdict, BlockBytes and the bitmap's laws
--     PastInUse     bytes past L and words past those in use are neither read nor written: by Verdict, BlockBytes, OpenClears and the bitmap's laws
--     PacketFold    a packet, as the loop of `take_blocks` goes, and its refusals: by RulesPassed, Verdict and NewAdds
--     PacketInUse   the same for packets: by PastInUse, BlockBytes and the bitmap's laws
--     MissingLoop   the first block that is not held, as the loop of `next_missing` goes: by the laws of `first_from`
pub mod RulesPassed
pub mod OpenClears
pub mod EqualBytes
pub mod BlockBytes
pub mod Verdict
pub mod NewAdds
pub mod PastInUse
pub mod PacketFold
pub mod PacketInUse
pub mod MissingLoop
