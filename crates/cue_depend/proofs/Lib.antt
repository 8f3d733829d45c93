-- How the theorem of specs/Depend is proved.
--     ListAgree      tags that agree on the relevant bytes are judged alike, and have the same cue k
--     CueAgree       files that agree on the relevant bytes give the same answer
--     WiderBytes     the bytes that are relevant for a cue are among those for every cue
--     Depend         the theorem, from these
--     Examples       the examples, by computation
pub mod ListAgree
pub mod CueAgree
pub mod WiderBytes
pub mod Depend
pub mod Examples
