-- Rules 14.4 and 14.7: a section of an ANLZ file, its fields in file order under the published names, and when it is not broken.
use Rattle.std.specs.Prelude.{Bool, ◌&&◌, ℕ, ◌+◌, length, leb}
use Rattle.lists.specs.Alias.{Bytes}
use Rattle.lists.specs.Subslice.{subslice}
use Rattle.number.specs.Number.{be32}
use Rattle.anlz.specs.declared.Section.{Section}
use Rattle.anlz.specs.Header.{envelope}

-- the fields of the section that starts at a place: its code and two lengths
abbrev pub fourcc : (file : Bytes) (place : ℕ) → ℕ
fourcc file place = be32 file place

abbrev pub len_header : (file : Bytes) (place : ℕ) → ℕ
len_header file place = be32 file (place + 0x04)

abbrev pub len_tag : (file : Bytes) (place : ℕ) → ℕ
len_tag file place = be32 file (place + 0x08)

-- Rule 14.4: its code and lengths are there, its header has a length from 12 to that of the section, and it ends in the file
unfoldable pub section_holds : (file : Bytes) (place : ℕ) → Bool
section_holds file place =
    leb (place + envelope) (length file)
    && (leb envelope (len_header file place) && (leb (len_header file place) (len_tag file place) && leb (place + len_tag file place) (length file)))

-- the section that starts at a place: its code, and where it starts and ends
abbrev pub section_at : (file : Bytes) (place : ℕ) → Section
section_at file place = record { code = fourcc file place; place = place; end = place + len_tag file place }

-- the bytes of a section, which the published analysis calls a tag
abbrev pub tag_of : (file : Bytes) (section : Section) → Bytes
tag_of file section = subslice file section.place section.end
