-- Rule 14.32 by example: a file with a section PWV3 of two entries, a second one behind it, and a section PWV5 of one entry, and five files
-- that differ from it in one byte. An example holds when the definitions say of a byte what is said here.
use Rattle.std.specs.Prelude.{true, false, List, [], ◌∷◌, ℕ, set}
use Rattle.lists.specs.Example.{Example}
use Rattle.lists.specs.Alias.{Bytes}
use Rattle.wave_depend.specs.Bytes.{relevant}

abbrev pub tune : Bytes
tune =
    -- PMAI, len_header `10`, len_file `5d`, and four bytes more of header
    0x50 ∷ 0x4d ∷ 0x41 ∷ 0x49 ∷ 0 ∷ 0 ∷ 0 ∷ 0x10 ∷ 0 ∷ 0 ∷ 0 ∷ 0x5d ∷ 0 ∷ 0 ∷ 0 ∷ 0 ∷
    -- at `10` PWV3, len_header `18`, len_tag `1a`, len_entry_bytes 1, len_entries 2, an unknown field, and at `28` the entries
    0x50 ∷ 0x57 ∷ 0x56 ∷ 0x33 ∷ 0 ∷ 0 ∷ 0 ∷ 0x18 ∷ 0 ∷ 0 ∷ 0 ∷ 0x1a ∷ 0 ∷ 0 ∷ 0 ∷ 1 ∷ 0 ∷ 0 ∷ 0 ∷ 2 ∷ 0 ∷ 0x96 ∷ 0 ∷ 0 ∷ 0x1f ∷ 0x2a ∷
    -- at `2a` PWV3 again, len_tag `19`, with one entry, at `42`
    0x50 ∷ 0x57 ∷ 0x56 ∷ 0x33 ∷ 0 ∷ 0 ∷ 0 ∷ 0x18 ∷ 0 ∷ 0 ∷ 0 ∷ 0x19 ∷ 0 ∷ 0 ∷ 0 ∷ 1 ∷ 0 ∷ 0 ∷ 0 ∷ 1 ∷ 0 ∷ 0x96 ∷ 0 ∷ 0 ∷ 0x05 ∷
    -- at `43` PWV5, len_tag `1a`, len_entry_bytes 2, with one entry, at `5b`
    0x50 ∷ 0x57 ∷ 0x56 ∷ 0x35 ∷ 0 ∷ 0 ∷ 0 ∷ 0x18 ∷ 0 ∷ 0 ∷ 0 ∷ 0x1a ∷ 0 ∷ 0 ∷ 0 ∷ 2 ∷ 0 ∷ 0 ∷ 0 ∷ 1 ∷ 0 ∷ 0x96 ∷ 3 ∷ 5 ∷ 0x80 ∷ 0x7c ∷ []

-- the file starts otherwise
abbrev pub bad_header : Bytes
bad_header = set tune 0x00 0

-- the section at `10` has a len_tag past the file
abbrev pub bad_section : Bytes
bad_section = set tune 0x1a 1

-- the section at `43` has a header of 11 bytes
abbrev pub bad_last : Bytes
bad_last = set tune 0x4a 11

-- len_entries of the section at `10` is 3
abbrev pub bad_number : Bytes
bad_number = set tune 0x23 3

-- the section at `10` has another code
abbrev pub other_code : Bytes
other_code = set tune 0x10 0

-- byte i of the file is relevant for a sort, or it is not
abbrev pub yes : (number : ℕ) (file : Bytes) (i : ℕ) → Example
yes number file i = record { found = relevant number file i; said = true }

abbrev pub no : (number : ℕ) (file : Bytes) (i : ℕ) → Example
no number file i = record { found = relevant number file i; said = false }

abbrev pub examples : List Example
examples =
    -- for sort 3, of the file header the envelope
    yes 3 tune 0x0b ∷ no 3 tune 0x0c ∷
    -- of the first PWV3 the envelope, the width and the number, and neither the unknown field nor an entry
    yes 3 tune 0x10 ∷ yes 3 tune 0x1b ∷ yes 3 tune 0x1c ∷ yes 3 tune 0x23 ∷ no 3 tune 0x24 ∷ no 3 tune 0x28 ∷ no 3 tune 0x29 ∷
    -- of the second PWV3, and of PWV5, the envelope
    yes 3 tune 0x2a ∷ yes 3 tune 0x35 ∷ no 3 tune 0x36 ∷ no 3 tune 0x3d ∷ no 3 tune 0x42 ∷
    yes 3 tune 0x43 ∷ yes 3 tune 0x4e ∷ no 3 tune 0x4f ∷ no 3 tune 0x56 ∷
    -- for sort 5, width and number of PWV5, and not those of PWV3
    yes 5 tune 0x4f ∷ yes 5 tune 0x56 ∷ no 5 tune 0x57 ∷ no 5 tune 0x5b ∷ no 5 tune 0x1c ∷ no 5 tune 0x23 ∷
    -- for sort 4, of which there is no section, and for sort 6, which there is not, the envelopes alone
    yes 4 tune 0x10 ∷ no 4 tune 0x1c ∷ yes 6 tune 0x43 ∷ no 6 tune 0x1c ∷
    -- behind a broken file header, and behind a broken section, nothing
    yes 3 bad_header 0x0b ∷ no 3 bad_header 0x10 ∷ no 3 bad_header 0x1c ∷ yes 3 bad_section 0x1b ∷ no 3 bad_section 0x1c ∷
    -- where the last section is broken, the envelopes alone
    yes 3 bad_last 0x4e ∷ no 3 bad_last 0x1c ∷
    -- where the entries do not fill the section, the same bytes
    yes 3 bad_number 0x1c ∷ yes 3 bad_number 0x23 ∷ no 3 bad_number 0x28 ∷
    -- where the section at `10` has another code, width and number of the one behind it
    no 3 other_code 0x1c ∷ yes 3 other_code 0x36 ∷
    []
