-- How the theorem of specs/Depend is proved: the relevant bytes of an answer stand in envelopes and in sections of its own code (OwnBytes), so
-- these decide it (Depend).
pub mod OwnBytes
pub mod Depend
