-- The examples hold (specs/Examples), by computation of the definitions.
use mathlib.Core.Path.{refl}
use Rattle.lists.specs.Example.{ExamplesHold}
use Rattle.lists.specs.Any.{any_from}
use Rattle.number.specs.Number.{be16, be32}
use Rattle.number.specs.Agree.{within, in_part}
use Rattle.anlz.specs.Header.{header_holds}
use Rattle.anlz.specs.Section.{section_holds}
use Rattle.anlz.specs.Sections.{next_section, sections_from, first_place, sections}
use Rattle.anlz.specs.First.{first_with, first_section}
use Rattle.anlz.specs.Bytes.{envelope_from, envelope_byte}
use Rattle.entries.specs.Entries.{fills, entries_from}
use Rattle.entries.specs.Every.{every_entry}
use Rattle.entries.specs.Bytes.{in_entries}
use Rattle.beat_grid.specs.Beat.{bar_holds}
use Rattle.beat_grid.specs.Grid.{grid_in, grid_section}
use Rattle.grid_depend.specs.Bytes.{count_byte, beat_byte, both_byte, relevant}
use Rattle.grid_depend.specs.Examples.{examples}

pub examples_hold : ExamplesHold examples
unfolding any_from be16 be32 within in_part header_holds section_holds next_section sections_from first_place sections first_with first_section
    envelope_from envelope_byte fills entries_from every_entry in_entries bar_holds grid_in grid_section count_byte beat_byte both_byte relevant
examples_hold = refl
