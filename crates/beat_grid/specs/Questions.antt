-- Rules 14.13 and 14.14: the two questions about a beat grid: the number of beats, and beat k.
use Rattle.std.specs.Prelude.{List, ℕ, length}
use Rattle.lists.specs.Alias.{Bytes}
use Rattle.refusal.specs.Answer.{Answer, given, and_then}
use Rattle.anlz.specs.Element.{element_at}
use Rattle.beat_grid.specs.declared.GridBeat.{GridBeat}
use Rattle.beat_grid.specs.Grid.{grid}

-- how many beats these are
abbrev pub counted : List GridBeat → Answer ℕ
counted beats = given (length beats)

unfoldable pub ask_beats : (file : Bytes) → Answer ℕ
ask_beats file = and_then (grid file) counted

unfoldable pub ask_beat : (file : Bytes) (k : ℕ) → Answer GridBeat
ask_beat file k = and_then (grid file) (element_at k)
