-- How the theorem of specs/Depend is proved.
--     BeatAmong      what the beats of a tag are where they are given, and beat k among them
--     TagAgree       tags that agree on the relevant bytes have the same number of beats, and the same beat k
--     GridAgree      what decides an answer in the tag decides it in the file, with the envelopes
--     WiderBytes     the bytes that are relevant for one question are among those for both
--     Depend         the theorem, from these
--     Examples       the examples, by computation
pub mod BeatAmong
pub mod TagAgree
pub mod GridAgree
pub mod WiderBytes
pub mod Depend
pub mod Examples
