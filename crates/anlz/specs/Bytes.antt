-- Rule 14.16: the bytes of an ANLZ file that its list of sections may depend on: the envelopes, 12 bytes each. And, for rules 14.17, 14.30,
-- 14.32 and 14.33, the bytes of a section.
use Rattle.std.specs.Prelude.{Bool, false, ◌&&◌, ◌||◌, List, [], ◌∷◌, ℕ, zero, suc, ◌+◌, ◌-◌, length}
use Rattle.lists.specs.Alias.{Bytes}
use Rattle.number.specs.Agree.{within, in_part}
use Rattle.anlz.specs.Header.{envelope, len_header, header_holds}
use Rattle.anlz.specs.declared.Section.{Section}
use Rattle.anlz.specs.Section.{len_tag, section_holds, tag_of}

-- byte i stands in the envelope of a section from a place on, up to and with the first broken one
-- (where the file ends, the 12 bytes are past it, and read as 0)
unfoldable pub envelope_from : (left : ℕ) (file : Bytes) (place i : ℕ) → Bool
envelope_from zero file place i = false
envelope_from (suc left) file place i =
    within place envelope i || (section_holds file place && envelope_from left file (place + len_tag file place) i)

-- byte i stands in the envelope of the file or, where its header is not broken, of a section
unfoldable pub envelope_byte : (file : Bytes) (i : ℕ) → Bool
envelope_byte file i = within 0 envelope i || (header_holds file && envelope_from (length file - len_header file) file (len_header file) i)

-- byte i of the file stands in a section, and passes a test as a byte of its tag
abbrev pub in_tag : (test : (tag : Bytes) (i : ℕ) → Bool) (file : Bytes) (section : Section) (i : ℕ) → Bool
in_tag test file section i = in_part (test (tag_of file section)) section.place (section.end - section.place) i

-- the same of one of these sections
unfoldable pub in_tags : (test : (tag : Bytes) (i : ℕ) → Bool) (file : Bytes) (these : List Section) (i : ℕ) → Bool
in_tags test file [] i = false
in_tags test file (section ∷ rest) i = in_tag test file section i || in_tags test file rest i
