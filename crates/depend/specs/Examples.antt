-- Rules 7.2 to 7.8, 7.10, 7.12, 7.14 and 7.15 by example: a file of four pages, of which page 3 is off the chain, five that differ a little,
-- and one of a track with a recording code.
-- An example holds when the definitions say of a byte what is said here.
use Rattle.std.specs.Prelude.{◌≡◌, true, false, List, [], ◌∷◌, ℕ, zero, suc, ◌+◌, replicate}
use Rattle.std.proofs.lemmas.List.Edits.{sets}
use Rattle.lists.specs.Example.{Example}
use Rattle.lists.specs.Alias.{Bytes, Places}
use Rattle.refusal.specs.Fault.{fault}
use Rattle.refusal.specs.Answer.{Answer, given, refused}
use Rattle.text.specs.declared.Encoding.TheVariants.{Ascii, Utf16}
use Rattle.intake.specs.Memory.{memory}
use Rattle.chain.specs.Found.{Found, found}
use Rattle.chain.specs.Walk.{Walk, full}
use Rattle.export.specs.Rows.{ask_rows}
use Rattle.export.specs.Text.{TextPlace, text_place, ask_text}
use Rattle.run.specs.Call.{Question, all_rows, one_text}
use Rattle.depend.specs.Bytes.{relevant}
use Rattle.depend.specs.Unread.{unread_for}
use Rattle.depend.specs.ListBytes.{record_from, read_relevant}

-- len_page 512, one pointer: type 1, first 1, last 2
abbrev pub header : Bytes → Bytes
header image = sets (sets (sets image 0x04 (0x00 ∷ 0x02 ∷ [])) 0x08 (1 ∷ [])) 0x1c (1 ∷ 0 ∷ 0 ∷ 0 ∷ 0 ∷ 0 ∷ 0 ∷ 0 ∷ 1 ∷ 0 ∷ 0 ∷ 0 ∷ 2 ∷ [])

-- page 1 has flags `64`, next 2
abbrev pub page_one : Bytes → Bytes
page_one image = sets (sets (sets (sets image 516 (1 ∷ [])) 520 (1 ∷ [])) 524 (2 ∷ [])) 539 (0x64 ∷ [])

-- page 2 counts two entries and one present row and has flags `24`; entry 1 alone is present, with offset 16: there stand id 7 and a short string of four characters
abbrev pub page_two : Bytes → Bytes
page_two image =
    sets (sets (sets (sets (sets (sets image 1028 (2 ∷ [])) 1032 (1 ∷ [])) 1048 (2 ∷ 0x20 ∷ 0 ∷ 0x24 ∷ []))
    1080 (7 ∷ 0 ∷ 0 ∷ 0 ∷ 0x0b ∷ 70 ∷ 117 ∷ 110 ∷ 107 ∷ [])) 1528 (16 ∷ [])) 1532 (2 ∷ [])

abbrev pub genres : Bytes
genres = page_two (page_one (header (replicate 2048 0)))

-- both rows of page 2 are present
abbrev pub both_rows : Bytes
both_rows = sets (sets genres 1532 (3 ∷ [])) 1049 (0x40 ∷ [])

-- page 2 counts two present rows and has one
abbrev pub miscounted : Bytes
miscounted = sets genres 1049 (0x40 ∷ [])

-- page 2 counts 209 entries, whose index does not fit it
abbrev pub too_long : Bytes
too_long = sets genres 1048 (209 ∷ [])

-- the present row starts three bytes before the row index
abbrev pub unfit : Bytes
unfit = sets genres 1528 (0xcd ∷ 0x01 ∷ [])

-- the same pages as table 2: the present row has subtype 7, which there is not
abbrev pub artists : Bytes
artists = sets (sets (sets genres 0x1c (2 ∷ [])) 520 (2 ∷ [])) 1032 (2 ∷ [])

-- so many offsets of an empty string, which is the byte `03` of the code below
abbrev pub empties : ℕ → Bytes
empties zero = []
empties (suc n) = 0x8c ∷ 0 ∷ empties n

-- table 0 has page 1 alone, with one track at 552; its slot 0 names a recording code of ten bytes at 688, of which two stand behind the zero byte
abbrev pub tracks : Bytes
tracks =
    sets (sets (sets (sets (sets (sets (sets (sets (header (replicate 2048 0)) 0x1c (0 ∷ [])) 0x28 (1 ∷ []))
    516 (1 ∷ [])) 536 (1 ∷ 0x20 ∷ 0 ∷ 0x24 ∷ [])) 646 (0x88 ∷ 0 ∷ [])) 648 (empties 20))
    688 (0x90 ∷ 0x0a ∷ 0 ∷ 0 ∷ 0x03 ∷ 71 ∷ 66 ∷ 0 ∷ 85 ∷ 83 ∷ [])) 1020 (1 ∷ [])

-- the code ends past the index
abbrev pub past_index : Bytes
past_index = sets tracks 690 (0x02 ∷ [])

-- slot 1 names the string too, of an odd size, so the row is refused
abbrev pub odd_shared : Bytes
odd_shared = sets (sets tracks 648 (0x88 ∷ [])) 689 (0x0b ∷ [])

-- slot 1 names an odd string of the same bytes, and slot 0 does not
abbrev pub odd_elsewhere : Bytes
odd_elsewhere = sets odd_shared 646 (0x8c ∷ [])

-- slot 0 of the track
abbrev pub code : Question
code = one_text 0 0 0

-- the blocks held, as bits of the map: all four, and without one
abbrev pub all : ℕ
all = 15

abbrev pub without_two : ℕ
without_two = 11

abbrev pub without_zero : ℕ
without_zero = 14

-- for all rows of table 1 byte i is relevant, or it is not
abbrev pub yes : (blocks i : ℕ) → Example
yes blocks i = record { found = relevant 2048 (memory genres (blocks ∷ [])) (all_rows 1 []) i; said = true }

abbrev pub no : (blocks i : ℕ) → Example
no blocks i = record { found = relevant 2048 (memory genres (blocks ∷ [])) (all_rows 1 []) i; said = false }

-- the same of another question over another image, with every block held
abbrev pub yes_in : (image : Bytes) (q : Question) (i : ℕ) → Example
yes_in image q i = record { found = relevant 2048 (memory image (all ∷ [])) q i; said = true }

abbrev pub no_in : (image : Bytes) (q : Question) (i : ℕ) → Example
no_in image q i = record { found = relevant 2048 (memory image (all ∷ [])) q i; said = false }

-- byte i is unread, or it is not; every block is held
abbrev pub unread : ℕ → Example
unread i = record { found = unread_for 2048 (memory genres (all ∷ [])) (all_rows 1 []) i; said = true }

abbrev pub read : ℕ → Example
read i = record { found = unread_for 2048 (memory genres (all ∷ [])) (all_rows 1 []) i; said = false }

-- for the record of element 0 of this list of table 1 byte i is relevant, or it is not; every block is held
abbrev pub yes_at_in : (image : Bytes) (list : Places) (i : ℕ) → Example
yes_at_in image list i = record { found = read_relevant 2048 (memory image (all ∷ [])) (record_from 1 list 0) i; said = true }

abbrev pub no_at_in : (image : Bytes) (list : Places) (i : ℕ) → Example
no_at_in image list i = record { found = read_relevant 2048 (memory image (all ∷ [])) (record_from 1 list 0) i; said = false }

abbrev pub yes_at : (list : Places) (i : ℕ) → Example
yes_at list i = yes_at_in genres list i

abbrev pub no_at : (list : Places) (i : ℕ) → Example
no_at list i = no_at_in genres list i

-- the same of the second of both rows, read from the list of both
abbrev pub yes_second : (i : ℕ) → Example
yes_second i = record { found = read_relevant 2048 (memory both_rows (all ∷ [])) (record_from 1 (1064 ∷ 1080 ∷ []) 1) i; said = true }

abbrev pub no_second : (i : ℕ) → Example
no_second i = record { found = read_relevant 2048 (memory both_rows (all ∷ [])) (record_from 1 (1064 ∷ 1080 ∷ []) 1) i; said = false }

abbrev pub examples : List Example
examples =
    -- block 0: len_page and what stands behind num_tables; the pointer with its empty_candidate, and where a second one would be
    yes all 0x04 ∷ no all 0x0c ∷ yes all 0x1c ∷ yes all 0x20 ∷ no all 0x2c ∷
    -- page 1, with flag `40`: page_index, next_page, the row counts and page_flags; nothing of its heap, its presence flags or its pad bytes
    yes all 516 ∷ yes all 524 ∷ yes all 536 ∷ yes all 539 ∷ no all 552 ∷ no all 1020 ∷ no all 1022 ∷
    -- page 2, the last: its next_page, the three bytes of its row counts, page_flags, and not bytes `22` and `23`
    yes all 1036 ∷ no all 1047 ∷ yes all 1048 ∷ yes all 1049 ∷ yes all 1050 ∷ yes all 1051 ∷ no all 1052 ∷ no all 1058 ∷ no all 1059 ∷
    -- its absent row, the heap between the rows, and its present row with its string, to the last byte of the text
    no all 1064 ∷ no all 1067 ∷ no all 1079 ∷ yes all 1080 ∷ yes all 1084 ∷ yes all 1088 ∷ no all 1089 ∷
    -- its row index: the present entry's offset, the absent entry's, the presence flags, the pad bytes
    yes all 1528 ∷ no all 1530 ∷ yes all 1532 ∷ no all 1534 ∷ no all 1535 ∷
    -- page 3, off the chain
    no all 1540 ∷ no all 2044 ∷
    -- with page 2 missing, and with block 0 missing
    no without_two 1080 ∷ yes without_two 524 ∷ no without_zero 0x04 ∷
    -- a present row that does not fit: its offset, and none of its three bytes
    yes_in unfit (all_rows 1 []) 1529 ∷ no_in unfit (all_rows 1 []) 1525 ∷ no_in unfit (all_rows 1 []) 1527 ∷
    -- flags whose ones are not as many as the page counts: the flags, and neither an offset nor a row
    yes_in miscounted (all_rows 1 []) 1532 ∷ no_in miscounted (all_rows 1 []) 1528 ∷ no_in miscounted (all_rows 1 []) 1080 ∷
    -- an index that does not fit: the row counts, and no flag
    yes_in too_long (all_rows 1 []) 1048 ∷ no_in too_long (all_rows 1 []) 1532 ∷
    -- an artist row of unknown subtype: its subtype, and nothing behind it
    yes_in artists (all_rows 2 []) 1080 ∷ yes_in artists (all_rows 2 []) 1081 ∷ no_in artists (all_rows 2 []) 1082 ∷ no_in artists (all_rows 2 []) 1089 ∷
    -- nothing for a table or a slot that there is not
    no_in genres (all_rows 9 []) 0x04 ∷ yes_in genres (one_text 1 0 0) 0x04 ∷ no_in genres (one_text 1 0 1) 0x04 ∷
    -- the absent row's first byte, bytes `22` and `23` of page 2 and a byte of page 3 are unread, the present row's, the row counts' and the pointer's are not
    unread 1064 ∷ unread 1058 ∷ unread 1059 ∷ unread 1540 ∷ read 1080 ∷ read 1048 ∷ read 1050 ∷ read 0x1c ∷
    -- read from a list: block 0, of page 2 its header and row index and the row that is named, and nothing of page 1
    yes_at (1080 ∷ []) 0x04 ∷ yes_at (1080 ∷ []) 1028 ∷ yes_at (1080 ∷ []) 1528 ∷ yes_at (1080 ∷ []) 1532 ∷ yes_at (1080 ∷ []) 1084 ∷
    no_at (1080 ∷ []) 1058 ∷ no_at (1080 ∷ []) 1079 ∷ no_at (1080 ∷ []) 1534 ∷ no_at (1080 ∷ []) 516 ∷
    -- read from a list on a page that counts its rows wrong: of index and rows the flags alone; where the index does not fit, no flag
    yes_at_in miscounted (1080 ∷ []) 1532 ∷ no_at_in miscounted (1080 ∷ []) 1528 ∷ no_at_in miscounted (1080 ∷ []) 1080 ∷ no_at_in too_long (1080 ∷ []) 1532 ∷
    -- the place of the absent row: no byte of any row; a place on page 0, and no element: block 0 alone
    yes_at (1064 ∷ []) 1532 ∷ no_at (1064 ∷ []) 1064 ∷ no_at (1064 ∷ []) 1080 ∷ no_at (40 ∷ []) 516 ∷ yes_at [] 0x1c ∷ no_at [] 1028 ∷
    -- of two present rows the one that is named is relevant and the other is not, but both their offsets are
    yes_second 1080 ∷ yes_second 1088 ∷ no_second 1064 ∷ no_second 1068 ∷ yes_second 1528 ∷ yes_second 1530 ∷
    -- a recording code: head, text, zero byte and the bytes behind it, and not the byte behind the string; of one that ends past the index the head
    yes_in tracks code 688 ∷ yes_in tracks code 694 ∷ yes_in tracks code 695 ∷ yes_in tracks code 697 ∷ no_in tracks code 698 ∷
    yes_in past_index code 691 ∷ no_in past_index code 693 ∷
    -- a string of kind `90` and of odd size: in slot 0 all of it, in slot 1 alone its head
    yes_in odd_shared code 698 ∷ yes_in odd_elsewhere code 691 ∷ no_in odd_elsewhere code 693 ∷
    []

-- what all rows of table 1 answer, where page 2 has other bytes from byte i of its header on
abbrev pub rows_with : (i : ℕ) (bytes : Bytes) → Walk ℕ
rows_with i bytes = (ask_rows 2048 (memory (sets genres (1024 + i) bytes) (all ∷ [])) 1 (0 ∷ [])).answer

-- Rules 4.11, 5.33: bytes `22` and `23` change no answer; row counts that are not those of the flags do
pub record CountAnswers : Type 0 where
  pub unchanged : rows_with 0x18 (0x02 ∷ 0x20 ∷ 0x00 ∷ []) ≡ given (full 1 2)
  pub behind : (low high : ℕ) → rows_with 0x22 (low ∷ high ∷ []) ≡ given (full 1 2)
  pub more : rows_with 0x18 (0x02 ∷ 0x40 ∷ 0x00 ∷ []) ≡ refused (fault 13 2)
  pub none : rows_with 0x18 (0x02 ∷ 0x00 ∷ 0x00 ∷ []) ≡ refused (fault 13 2)
  pub fewer : rows_with 0x18 (0x01 ∷ 0x20 ∷ 0x00 ∷ []) ≡ refused (fault 13 2)

-- what slot 0 of the track answers, where byte i has another value
abbrev pub code_with : (i byte : ℕ) → Answer (Found TextPlace)
code_with i byte = ask_text 2048 (memory (sets tracks i (byte ∷ [])) (all ∷ [])) 0 0 0

-- Rule 7.8: no byte behind a code's zero byte changes the answer; another byte in place of the zero byte does, and in place of `03`
pub record CodeAnswers : Type 0 where
  pub unchanged : code_with 688 0x90 ≡ given (found (text_place 693 2 Ascii))
  pub behind : (byte : ℕ) → code_with 696 byte ≡ given (found (text_place 693 2 Ascii))
  pub last : (byte : ℕ) → code_with 697 byte ≡ given (found (text_place 693 2 Ascii))
  pub zero_byte : code_with 695 1 ≡ refused (fault 15 1)
  pub no_code : code_with 692 5 ≡ given (found (text_place 692 6 Utf16))
