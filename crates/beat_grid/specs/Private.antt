-- Definitions that only the contracts of private functions and the proofs cite.
use Rattle.std.specs.Prelude.{List, map}
use Rattle.entries.specs.declared.Entries.{Entries}
use Rattle.entries.specs.Entries.{entries}
use Rattle.beat_grid.specs.declared.GridBeat.{GridBeat}
use Rattle.beat_grid.specs.Beat.{beat_of}

-- the beats that these entries are
abbrev pub beats_of : Entries → List GridBeat
beats_of e = map beat_of (entries e.width e.count e.tag.now)
