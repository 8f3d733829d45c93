-- Rules 14.30 and 14.31 by example: a file with a list of two memory cues, another section and a list of one hot cue, and five that differ in one
-- byte. An example holds when the definitions say of a byte what is said here.
use Rattle.std.specs.Prelude.{Bool, true, false, List, [], ◌∷◌, ◌++◌, ℕ, set}
use Rattle.lists.specs.Example.{Example}
use Rattle.lists.specs.Alias.{Bytes}
use Rattle.cue_depend.specs.Bytes.{relevant, every_relevant}

-- PCPT, len_header `1c`, length `38`, a hot cue number, status 1, eight bytes more, a kind and three bytes more, a time, a loop time, 16 bytes more
abbrev pub entry_of : (hot kind time later : ℕ) → Bytes
entry_of hot kind time later =
    0x50 ∷ 0x43 ∷ 0x50 ∷ 0x54 ∷ 0 ∷ 0 ∷ 0 ∷ 0x1c ∷ 0 ∷ 0 ∷ 0 ∷ 0x38 ∷ 0 ∷ 0 ∷ 0 ∷ hot ∷ 0 ∷ 0 ∷ 0 ∷ 1 ∷ 0 ∷ 0x10 ∷ 0 ∷ 0 ∷ 0 ∷ 0 ∷ 0 ∷ 0 ∷
    kind ∷ 0 ∷ 0 ∷ 0 ∷ 0 ∷ 0 ∷ 0 ∷ time ∷ 0 ∷ 0 ∷ 0 ∷ later ∷ 0 ∷ 0 ∷ 0 ∷ 0 ∷ 0 ∷ 0 ∷ 0 ∷ 0 ∷ 0 ∷ 0 ∷ 0 ∷ 0 ∷ 0 ∷ 0 ∷ 0 ∷ 0 ∷ []

-- PCOB, len_header `18`, a len_tag, a type, two bytes more, a number of cues, four bytes more
abbrev pub list_of : (len_tag type count : ℕ) → Bytes
list_of len_tag type count =
    0x50 ∷ 0x43 ∷ 0x4f ∷ 0x42 ∷ 0 ∷ 0 ∷ 0 ∷ 0x18 ∷ 0 ∷ 0 ∷ 0 ∷ len_tag ∷ 0 ∷ 0 ∷ 0 ∷ type ∷ 0 ∷ 0 ∷ 0 ∷ count ∷ 0 ∷ 0 ∷ 0 ∷ 0 ∷ []

abbrev pub tune : Bytes
tune =
    -- PMAI, len_header `10`, len_file `f8`, and four bytes more of header
    (0x50 ∷ 0x4d ∷ 0x41 ∷ 0x49 ∷ 0 ∷ 0 ∷ 0 ∷ 0x10 ∷ 0 ∷ 0 ∷ 0 ∷ 0xf8 ∷ 0 ∷ 0 ∷ 0 ∷ 0 ∷ [])
    -- at `10` a list of two memory cues: at `28` a loop, at `60` a point
    ++ (list_of 0x88 0 2 ++ (entry_of 0 2 100 200 ++ (entry_of 0 1 150 0
    -- at `98` PCO2, len_header `0c`, len_tag `10`, and four bytes of body
    ++ ((0x50 ∷ 0x43 ∷ 0x4f ∷ 0x32 ∷ 0 ∷ 0 ∷ 0 ∷ 0x0c ∷ 0 ∷ 0 ∷ 0 ∷ 0x10 ∷ 0 ∷ 0 ∷ 0 ∷ 0 ∷ [])
    -- at `a8` a list of one hot cue: at `c0` a loop
    ++ (list_of 0x50 1 1 ++ entry_of 3 2 170 180)))))

-- the file starts otherwise
abbrev pub bad_header : Bytes
bad_header = set tune 0x00 0

-- the section at `98` has a len_tag past the file
abbrev pub bad_section : Bytes
bad_section = set tune 0xa0 1

-- the list at `10` has one cue
abbrev pub bad_count : Bytes
bad_count = set tune 0x23 1

-- the kind of cue 1 is 3
abbrev pub bad_kind : Bytes
bad_kind = set tune 0x7c 3

-- the section at `10` has another code
abbrev pub other_code : Bytes
other_code = set tune 0x10 0

-- byte i of the file is relevant for this question, or it is not
abbrev pub cue : (k : ℕ) (file : Bytes) (i : ℕ) → Bool
cue k file i = relevant k file i

abbrev pub every : (file : Bytes) (i : ℕ) → Bool
every file i = every_relevant file i

abbrev pub yes : (test : Bytes → ℕ → Bool) (file : Bytes) (i : ℕ) → Example
yes test file i = record { found = test file i; said = true }

abbrev pub no : (test : Bytes → ℕ → Bool) (file : Bytes) (i : ℕ) → Example
no test file i = record { found = test file i; said = false }

abbrev pub examples : List Example
examples =
    -- for cue 0, of the file header the envelope
    yes (cue 0) tune 0x00 ∷ yes (cue 0) tune 0x0b ∷ no (cue 0) tune 0x0c ∷ no (cue 0) tune 0x0f ∷
    -- of its list the envelope, type and number of cues, and nothing between or behind
    yes (cue 0) tune 0x10 ∷ yes (cue 0) tune 0x1b ∷ yes (cue 0) tune 0x1c ∷ yes (cue 0) tune 0x1f ∷
    no (cue 0) tune 0x20 ∷ no (cue 0) tune 0x21 ∷ yes (cue 0) tune 0x22 ∷ yes (cue 0) tune 0x23 ∷
    no (cue 0) tune 0x24 ∷ no (cue 0) tune 0x27 ∷
    -- of its entry code, length, hot cue number, kind, time and loop time
    yes (cue 0) tune 0x28 ∷ yes (cue 0) tune 0x2b ∷ no (cue 0) tune 0x2c ∷ no (cue 0) tune 0x2f ∷
    yes (cue 0) tune 0x30 ∷ yes (cue 0) tune 0x33 ∷ yes (cue 0) tune 0x34 ∷ yes (cue 0) tune 0x37 ∷
    no (cue 0) tune 0x38 ∷ no (cue 0) tune 0x3b ∷ no (cue 0) tune 0x43 ∷ yes (cue 0) tune 0x44 ∷ no (cue 0) tune 0x45 ∷
    no (cue 0) tune 0x47 ∷ yes (cue 0) tune 0x48 ∷ yes (cue 0) tune 0x4b ∷ yes (cue 0) tune 0x4c ∷
    yes (cue 0) tune 0x4f ∷ no (cue 0) tune 0x50 ∷ no (cue 0) tune 0x5f ∷
    -- of the entries of cues 1 and 2 code, length and kind alone
    yes (cue 0) tune 0x60 ∷ yes (cue 0) tune 0x68 ∷ yes (cue 0) tune 0x7c ∷ no (cue 0) tune 0x64 ∷
    no (cue 0) tune 0x6c ∷ no (cue 0) tune 0x80 ∷ no (cue 0) tune 0x84 ∷ yes (cue 0) tune 0xc0 ∷
    yes (cue 0) tune 0xc8 ∷ yes (cue 0) tune 0xdc ∷ no (cue 0) tune 0xc4 ∷ no (cue 0) tune 0xcc ∷
    no (cue 0) tune 0xe0 ∷
    -- of the section between the lists the envelope, and of the second list the same as of the first
    yes (cue 0) tune 0x98 ∷ yes (cue 0) tune 0xa3 ∷ no (cue 0) tune 0xa4 ∷ yes (cue 0) tune 0xa8 ∷
    yes (cue 0) tune 0xb4 ∷ yes (cue 0) tune 0xba ∷ no (cue 0) tune 0xb8 ∷ no (cue 0) tune 0xbc ∷
    -- for cue 1, which is a point, its hot cue number and time, and no loop time
    yes (cue 1) tune 0x6c ∷ yes (cue 1) tune 0x6f ∷ yes (cue 1) tune 0x80 ∷ yes (cue 1) tune 0x83 ∷
    no (cue 1) tune 0x84 ∷ no (cue 1) tune 0x87 ∷ no (cue 1) tune 0x34 ∷ no (cue 1) tune 0x48 ∷ yes (cue 1) tune 0x44 ∷
    -- for cue 2 those of the second list's entry, and of none for cue 3, which there is not
    yes (cue 2) tune 0xcc ∷ yes (cue 2) tune 0xe0 ∷ yes (cue 2) tune 0xe4 ∷ no (cue 2) tune 0x34 ∷
    no (cue 2) tune 0x6c ∷ no (cue 2) tune 0x80 ∷ yes (cue 3) tune 0xdc ∷ no (cue 3) tune 0xcc ∷ no (cue 3) tune 0xe0 ∷
    no (cue 3) tune 0x34 ∷ no (cue 3) tune 0x6c ∷
    -- for every cue the envelopes and, of each list, type, number and entries
    yes every tune 0x0b ∷ yes every tune 0x1c ∷ yes every tune 0x22 ∷ yes every tune 0x28 ∷ yes every tune 0x38 ∷
    yes every tune 0x97 ∷ no every tune 0x0c ∷ no every tune 0x20 ∷ no every tune 0x24 ∷ no every tune 0xa4 ∷
    yes every tune 0xa3 ∷ yes every tune 0xb4 ∷ yes every tune 0xf7 ∷
    -- where a kind is wrong, what is judged of all lists and nothing more
    yes (cue 0) bad_kind 0x7c ∷ yes (cue 0) bad_kind 0x44 ∷ yes (cue 0) bad_kind 0xb4 ∷ yes (cue 0) bad_kind 0xdc ∷
    no (cue 0) bad_kind 0x34 ∷ no (cue 0) bad_kind 0x48 ∷
    -- where the entries of a list do not fill it, nothing of them; the other list is judged
    yes (cue 0) bad_count 0x1c ∷ yes (cue 0) bad_count 0x22 ∷ no (cue 0) bad_count 0x28 ∷ no (cue 0) bad_count 0x34 ∷
    no (cue 0) bad_count 0x48 ∷ yes (cue 0) bad_count 0xc0 ∷
    -- behind a broken file header, and where a section is broken, no list
    yes (cue 0) bad_header 0x0b ∷ no (cue 0) bad_header 0x10 ∷ no (cue 0) bad_header 0x1c ∷ no (cue 0) bad_header 0x28 ∷
    yes (cue 0) bad_section 0x10 ∷ yes (cue 0) bad_section 0x98 ∷ no (cue 0) bad_section 0x1c ∷
    no (cue 0) bad_section 0x28 ∷ no (cue 0) bad_section 0xb4 ∷
    -- where the first list has another code, cue 0 stands in the second
    yes (cue 0) other_code 0x10 ∷ yes (cue 0) other_code 0xcc ∷ yes (cue 0) other_code 0xe0 ∷ no (cue 0) other_code 0x1c ∷
    no (cue 0) other_code 0x28 ∷ no (cue 0) other_code 0x34 ∷
    []
