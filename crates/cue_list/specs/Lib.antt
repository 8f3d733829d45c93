-- The cues of an ANLZ file: an entry of a list (Cue), the lists (CueList), and the question (Questions). Private has what only private
-- functions cite.
pub mod Cue
pub mod CueList
pub mod Questions
pub mod Private
