-- Rule 14.32: the relevant bytes of an ANLZ file, those that an answer about a waveform's entry may depend on.
-- Rests on the envelopes and the bytes of a section (anlz/Bytes).
use Rattle.std.specs.Prelude.{Bool, false, ◌||◌, List, ℕ}
use Rattle.lists.specs.Alias.{Bytes}
use Rattle.number.specs.Agree.{within}
use Rattle.refusal.specs.Answer.{Answer, given, refused, and_then}
use Rattle.anlz.specs.declared.Section.{Section}
use Rattle.anlz.specs.Sections.{sections}
use Rattle.anlz.specs.Bytes.{envelope_byte, in_tag}
use Rattle.waveform.specs.declared.Wave.{Wave}
use Rattle.waveform.specs.Sort.{sort_of}
use Rattle.waveform.specs.Questions.{or_absent, wave_section}

-- the four bytes of len_entry_bytes and the four of len_entries
abbrev pub width_and_number : (tag : Bytes) (i : ℕ) → Bool
width_and_number tag i = within 0x0c 8 i

-- the first section of the sort asked among these, where there is one
abbrev pub asked_section : (number : ℕ) (all : List Section) → Answer Section
asked_section number all = and_then (or_absent (sort_of number)) (λ (wave : Wave). wave_section wave all)

-- byte i of the file stands in that section, and is one of those eight
abbrev pub in_asked : (file : Bytes) (asked : Answer Section) (i : ℕ) → Bool
in_asked file (given section) i = in_tag width_and_number file section i
in_asked file (refused f) i = false

-- byte i of the file stands in an envelope, or is one of the eight
unfoldable pub relevant : (number : ℕ) (file : Bytes) (i : ℕ) → Bool
relevant number file i = envelope_byte file i || in_asked file (and_then (sections file) (asked_section number)) i
