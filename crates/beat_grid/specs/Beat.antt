-- Rules 14.11 and 14.12: a beat, the fields of its eight bytes in file order, and which bar positions there are.
use Rattle.std.specs.Prelude.{Bool, ◌&&◌, ℕ, leb}
use Rattle.lists.specs.Alias.{Bytes}
use Rattle.number.specs.Number.{be16, be32}
use Rattle.beat_grid.specs.declared.GridBeat.{GridBeat}

-- bytes of a beat
abbrev pub beat_size : ℕ
beat_size = 8

-- published as beat_number
abbrev pub bar_position : Bytes → ℕ
bar_position entry = be16 entry 0x00

-- beats per minute times 100
abbrev pub tempo : Bytes → ℕ
tempo entry = be16 entry 0x02

-- milliseconds
abbrev pub time : Bytes → ℕ
time entry = be32 entry 0x04

abbrev pub beat_of : Bytes → GridBeat
beat_of entry = record { bar_position = bar_position entry; tempo = tempo entry; time = time entry }

-- Rule 14.12
unfoldable pub bar_holds : (bar_position : ℕ) → Bool
bar_holds n = leb 1 n && leb n 4

abbrev pub beat_holds : (entry : Bytes) → Bool
beat_holds entry = bar_holds (bar_position entry)
