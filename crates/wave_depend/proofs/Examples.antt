-- The examples hold (specs/Examples), by computation of the definitions.
use mathlib.Core.Path.{refl}
use Rattle.lists.specs.Example.{ExamplesHold}
use Rattle.number.specs.Number.{be16, be32}
use Rattle.number.specs.Agree.{within, in_part}
use Rattle.anlz.specs.Header.{header_holds}
use Rattle.anlz.specs.Section.{section_holds}
use Rattle.anlz.specs.Sections.{next_section, sections_from, first_place, sections}
use Rattle.anlz.specs.First.{first_with}
use Rattle.anlz.specs.Bytes.{envelope_from, envelope_byte}
use Rattle.waveform.specs.Sort.{sort_of}
use Rattle.wave_depend.specs.Bytes.{relevant}
use Rattle.wave_depend.specs.Examples.{examples}

pub examples_hold : ExamplesHold examples
unfolding be16 be32 within in_part header_holds section_holds next_section sections_from first_place sections first_with envelope_from envelope_byte sort_of relevant
examples_hold = refl
