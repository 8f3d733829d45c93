-- Rules 14.8, 14.10 and 14.12: the beats of a file's grid in order, or the refusal.
use Rattle.std.specs.Prelude.{not, List, map, ℕ, Option, None, Some}
use Rattle.lists.specs.Alias.{Bytes}
use Rattle.number.specs.Number.{be32}
use Rattle.refusal.specs.Fault.{fault}
use Rattle.refusal.specs.Answer.{Answer, given, refused, refuse_if, and_then}
use Rattle.anlz.specs.declared.Section.{Section}
use Rattle.anlz.specs.Header.{four_bytes}
use Rattle.anlz.specs.Section.{tag_of}
use Rattle.anlz.specs.First.{first_section}
use Rattle.entries.specs.Entries.{fills, entries}
use Rattle.entries.specs.Every.{every_entry}
use Rattle.beat_grid.specs.declared.GridBeat.{GridBeat}
use Rattle.beat_grid.specs.Beat.{beat_size, beat_of, beat_holds}

-- P, Q, T, Z
abbrev pub pqtz : ℕ
pqtz = four_bytes 0x50 0x51 0x54 0x5a

abbrev pub len_beats : Bytes → ℕ
len_beats tag = be32 tag 0x14

abbrev pub beat_entries : Bytes → List Bytes
beat_entries tag = entries beat_size (len_beats tag) tag

-- Rules 14.10 and 14.12, in this order: the beats of this section
unfoldable pub grid_in : Bytes → Answer (List GridBeat)
grid_in tag =
    refuse_if (not (fills beat_size (len_beats tag) tag)) (fault 23 0)
    (refuse_if (not (every_entry beat_holds (beat_entries tag))) (fault 24 0)
    (given (map beat_of (beat_entries tag))))

-- Rule 14.8: 22 where there is none
abbrev pub needed : Option Section → Answer Section
needed None = refused (fault 22 0)
needed (Some section) = given section

-- Rule 14.8: the first section PQTZ
unfoldable pub grid_section : (file : Bytes) → Answer Section
grid_section file = and_then (first_section file pqtz) needed

-- the beats of the file's grid
unfoldable pub grid : (file : Bytes) → Answer (List GridBeat)
grid file = and_then (grid_section file) (λ (section : Section). grid_in (tag_of file section))
