-- Rules 14.16 to 14.19 by example: a file with a section before its grid of two beats and one behind it, and seven that differ in one byte.
-- An example holds when the definitions say of a byte what is said here.
use Rattle.std.specs.Prelude.{Bool, true, false, List, [], ◌∷◌, ℕ, set}
use Rattle.lists.specs.Example.{Example}
use Rattle.lists.specs.Alias.{Bytes}
use Rattle.grid_depend.specs.Bytes.{count_byte, beat_byte, both_byte, relevant}

abbrev pub tune : Bytes
tune =
    -- PMAI, len_header `10`, len_file `58`, and four bytes more of header
    0x50 ∷ 0x4d ∷ 0x41 ∷ 0x49 ∷ 0 ∷ 0 ∷ 0 ∷ 0x10 ∷ 0 ∷ 0 ∷ 0 ∷ 0x58 ∷ 0 ∷ 0 ∷ 0 ∷ 0 ∷
    -- at `10` PPTH, len_header `0c`, len_tag `10`, and four bytes of body
    0x50 ∷ 0x50 ∷ 0x54 ∷ 0x48 ∷ 0 ∷ 0 ∷ 0 ∷ 0x0c ∷ 0 ∷ 0 ∷ 0 ∷ 0x10 ∷ 0 ∷ 0 ∷ 0 ∷ 0 ∷
    -- at `20` PQTZ, len_header `18`, len_tag `28`, two unknown fields, and len_beats 2
    0x50 ∷ 0x51 ∷ 0x54 ∷ 0x5a ∷ 0 ∷ 0 ∷ 0 ∷ 0x18 ∷ 0 ∷ 0 ∷ 0 ∷ 0x28 ∷ 0 ∷ 0 ∷ 0 ∷ 0 ∷ 0 ∷ 8 ∷ 0 ∷ 0 ∷ 0 ∷ 0 ∷ 0 ∷ 2 ∷
    -- at `38` and `40` its beats: bar positions 4 and 1, tempo 12000, times 100 and 600
    0 ∷ 4 ∷ 0x2e ∷ 0xe0 ∷ 0 ∷ 0 ∷ 0 ∷ 0x64 ∷ 0 ∷ 1 ∷ 0x2e ∷ 0xe0 ∷ 0 ∷ 0 ∷ 2 ∷ 0x58 ∷
    -- at `48` PQT2, len_header `0c`, len_tag `10`, and four bytes of body
    0x50 ∷ 0x51 ∷ 0x54 ∷ 0x32 ∷ 0 ∷ 0 ∷ 0 ∷ 0x0c ∷ 0 ∷ 0 ∷ 0 ∷ 0x10 ∷ 0 ∷ 0 ∷ 0 ∷ 0 ∷ []

-- the file starts otherwise
abbrev pub bad_header : Bytes
bad_header = set tune 0x00 0

-- the section at `10` has a len_tag past the file
abbrev pub bad_section : Bytes
bad_section = set tune 0x1a 1

-- the section at `20` has another code
abbrev pub no_grid : Bytes
no_grid = set tune 0x20 0

-- len_beats is 3
abbrev pub bad_count : Bytes
bad_count = set tune 0x37 3

-- the bar position of beat 1 is 5
abbrev pub bad_bar : Bytes
bad_bar = set tune 0x41 5

-- the section at `48` has a header of 11 bytes
abbrev pub bad_last : Bytes
bad_last = set tune 0x4f 11

-- the section at `48` is a second PQTZ
abbrev pub two_grids : Bytes
two_grids = set tune 0x4b 0x5a

-- byte i of the file is relevant, or it is not
abbrev pub yes : (test : Bytes → ℕ → Bool) (file : Bytes) (i : ℕ) → Example
yes test file i = record { found = relevant test file i; said = true }

abbrev pub no : (test : Bytes → ℕ → Bool) (file : Bytes) (i : ℕ) → Example
no test file i = record { found = relevant test file i; said = false }

abbrev pub examples : List Example
examples =
    -- for the number of beats, of the file header and of the section at `10` the envelope
    yes count_byte tune 0x00 ∷ yes count_byte tune 0x0b ∷ no count_byte tune 0x0c ∷ no count_byte tune 0x0f ∷
    yes count_byte tune 0x10 ∷ yes count_byte tune 0x1b ∷ no count_byte tune 0x1c ∷ no count_byte tune 0x1f ∷
    -- of the grid its envelope and len_beats, and nothing between
    yes count_byte tune 0x20 ∷ yes count_byte tune 0x2b ∷ no count_byte tune 0x2c ∷ no count_byte tune 0x33 ∷
    yes count_byte tune 0x34 ∷ yes count_byte tune 0x37 ∷
    -- of each beat the bar position, and neither tempo nor time
    yes count_byte tune 0x38 ∷ yes count_byte tune 0x39 ∷ no count_byte tune 0x3a ∷ no count_byte tune 0x3c ∷ no count_byte tune 0x3f ∷
    yes count_byte tune 0x40 ∷ yes count_byte tune 0x41 ∷ no count_byte tune 0x42 ∷ no count_byte tune 0x44 ∷ no count_byte tune 0x47 ∷
    -- of the section behind it the envelope
    yes count_byte tune 0x48 ∷ yes count_byte tune 0x53 ∷ no count_byte tune 0x54 ∷ no count_byte tune 0x57 ∷
    -- for beat 0 also its tempo and time, and of beat 1 the bar position alone
    yes (beat_byte 0) tune 0x34 ∷ yes (beat_byte 0) tune 0x3a ∷ yes (beat_byte 0) tune 0x3f ∷ yes (beat_byte 0) tune 0x41 ∷
    no (beat_byte 0) tune 0x2c ∷ no (beat_byte 0) tune 0x42 ∷ no (beat_byte 0) tune 0x44 ∷
    -- for beat 1 its own, and those of neither for beat 2, which there is not
    yes (beat_byte 1) tune 0x42 ∷ yes (beat_byte 1) tune 0x44 ∷ yes (beat_byte 1) tune 0x47 ∷ yes (beat_byte 1) tune 0x39 ∷ no (beat_byte 1) tune 0x3c ∷
    yes (beat_byte 2) tune 0x41 ∷ no (beat_byte 2) tune 0x3c ∷ no (beat_byte 2) tune 0x44 ∷ no (beat_byte 2) tune 0x54 ∷
    -- for both questions the envelopes, len_beats and the beats
    yes both_byte tune 0x0b ∷ no both_byte tune 0x0c ∷ no both_byte tune 0x1f ∷ no both_byte tune 0x2c ∷ no both_byte tune 0x33 ∷
    yes both_byte tune 0x34 ∷ yes both_byte tune 0x38 ∷ yes both_byte tune 0x47 ∷ yes both_byte tune 0x53 ∷ no both_byte tune 0x54 ∷
    -- behind a broken file header, and behind a broken section, nothing
    yes count_byte bad_header 0x00 ∷ yes count_byte bad_header 0x0b ∷ no count_byte bad_header 0x10 ∷ no count_byte bad_header 0x34 ∷
    yes count_byte bad_section 0x10 ∷ yes count_byte bad_section 0x1b ∷ no count_byte bad_section 0x20 ∷ no count_byte bad_section 0x34 ∷
    no (beat_byte 0) bad_section 0x3c ∷ no count_byte bad_section 0x48 ∷
    -- of two sections PQTZ the first is the grid
    yes count_byte two_grids 0x34 ∷ yes count_byte two_grids 0x38 ∷ yes count_byte two_grids 0x53 ∷ no count_byte two_grids 0x54 ∷
    -- where the section behind the grid is broken, the envelopes alone
    yes count_byte bad_last 0x20 ∷ yes count_byte bad_last 0x53 ∷ no count_byte bad_last 0x34 ∷ no count_byte bad_last 0x38 ∷
    -- without a grid the envelopes alone
    yes count_byte no_grid 0x20 ∷ yes count_byte no_grid 0x48 ∷ no count_byte no_grid 0x34 ∷ no count_byte no_grid 0x38 ∷
    -- where the beats do not fill the tag, nothing of them; where a bar position is wrong, no tempo and no time
    yes count_byte bad_count 0x34 ∷ yes count_byte bad_count 0x37 ∷ no count_byte bad_count 0x38 ∷ no (beat_byte 0) bad_count 0x3c ∷
    yes (beat_byte 0) bad_bar 0x38 ∷ yes (beat_byte 0) bad_bar 0x41 ∷ no (beat_byte 0) bad_bar 0x3a ∷ no (beat_byte 0) bad_bar 0x3c ∷
    []
