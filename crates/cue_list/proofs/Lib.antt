-- The cues of a file: the search through the lists for a cue (CueSearch).
pub mod CueSearch
