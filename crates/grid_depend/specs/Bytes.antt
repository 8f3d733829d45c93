-- Rules 14.17 to 14.19: the relevant bytes of an ANLZ file, those that an answer about its beat grid may depend on.
-- Rests on the envelopes and the bytes of a section (anlz/Bytes), and on the bytes of its entries (entries/Bytes).
use Rattle.std.specs.Prelude.{Bool, false, ◌&&◌, ◌||◌, ℕ, ltb, leb}
use Rattle.lists.specs.Alias.{Bytes}
use Rattle.number.specs.Agree.{within}
use Rattle.refusal.specs.Answer.{Answer, given, refused, and_then}
use Rattle.anlz.specs.declared.Section.{Section}
use Rattle.anlz.specs.Bytes.{envelope_byte, in_tag}
use Rattle.entries.specs.Entries.{entry_at, fills}
use Rattle.entries.specs.Bytes.{in_entry, in_entries}
use Rattle.beat_grid.specs.Beat.{beat_size}
use Rattle.beat_grid.specs.Grid.{len_beats, grid_in, grid_section}
use Rattle.beat_grid.specs.Questions.{counted}

-- the bar positions of so many beats of the tag
abbrev pub bar_byte : (count i : ℕ) → Bool
bar_byte count i = in_entries (within 0 2) beat_size count i

-- Rule 14.17, for the number of beats: len_beats and, where the beats fill the tag, all bar positions
unfoldable pub count_byte : (tag : Bytes) (i : ℕ) → Bool
count_byte tag i = within 0x14 4 i || (fills beat_size (len_beats tag) tag && bar_byte (len_beats tag) i)

-- whether there is a beat k, by the answer to the number of beats
abbrev pub has_beat : (k : ℕ) (count : Answer ℕ) → Bool
has_beat k (given n) = ltb k n
has_beat k (refused f) = false

-- Rule 14.18, for beat k: those and, where there is one, its eight bytes
unfoldable pub beat_byte : (k : ℕ) (tag : Bytes) (i : ℕ) → Bool
beat_byte k tag i = count_byte tag i || (has_beat k (and_then (grid_in tag) counted) && in_entry (within 0 beat_size) beat_size k i)

-- Rule 14.19, for both questions and every k: len_beats, and all bytes from the first beat on
unfoldable pub both_byte : (tag : Bytes) (i : ℕ) → Bool
both_byte tag i = within 0x14 4 i || leb (entry_at beat_size 0) i

-- byte i of the file stands in the grid section, where there is one, and passes the test as a byte of its tag
abbrev pub in_grid : (test : (tag : Bytes) (i : ℕ) → Bool) (file : Bytes) (grid : Answer Section) (i : ℕ) → Bool
in_grid test file (given section) i = in_tag test file section i
in_grid test file (refused f) i = false

-- byte i of the file stands in an envelope, or in the grid and passes the test
unfoldable pub relevant : (test : (tag : Bytes) (i : ℕ) → Bool) (file : Bytes) (i : ℕ) → Bool
relevant test file i = envelope_byte file i || in_grid test file (grid_section file) i
