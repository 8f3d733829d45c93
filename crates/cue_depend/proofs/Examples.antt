-- The examples hold (specs/Examples), by computation of the definitions.
use mathlib.Core.Path.{refl}
use Rattle.lists.specs.Example.{ExamplesHold}
use Rattle.lists.specs.Any.{any_from}
use Rattle.number.specs.Number.{be16, be32}
use Rattle.number.specs.Agree.{within, in_part}
use Rattle.anlz.specs.Header.{header_holds}
use Rattle.anlz.specs.Section.{section_holds}
use Rattle.anlz.specs.Sections.{next_section, sections_from, first_place, sections}
use Rattle.anlz.specs.All.{all_with}
use Rattle.anlz.specs.Bytes.{envelope_from, envelope_byte, in_tags}
use Rattle.entries.specs.Entries.{fills, entries_from}
use Rattle.entries.specs.Every.{every_entry}
use Rattle.entries.specs.Bytes.{in_entries}
use Rattle.cue_list.specs.Cue.{cue_holds}
use Rattle.cue_list.specs.CueList.{list_holds, lists_hold}
use Rattle.cue_depend.specs.Bytes.{judged_byte, list_byte, own_byte, cue_byte, relevant, every_byte, every_relevant}
use Rattle.cue_depend.specs.Examples.{examples}

pub examples_hold : ExamplesHold examples
unfolding any_from be16 be32 within in_part header_holds section_holds next_section sections_from first_place sections all_with envelope_from envelope_byte in_tags
    fills entries_from every_entry in_entries cue_holds list_holds lists_hold judged_byte list_byte own_byte cue_byte relevant every_byte every_relevant
examples_hold = refl
