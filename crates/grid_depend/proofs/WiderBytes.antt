-- Rule 14.19: the bytes that are relevant for the number of beats (`count_among`) and for beat k (`beat_among`) are among those that are
-- said to be relevant for both questions. Rests on the definitions alone.
use mathlib.Core.Path.{◌≡◌}
use mathlib.Core.Bool.{Bool, true, false≢true}
use Prim.Native.Nat.{ℕ}
use lib.Dec.{leb}
use borrow.Author.Tests.{le-leb}
use Rattle.lists.specs.Alias.{Bytes}
use Rattle.lists.proofs.Choice.{on, both_true, or_left, or_right, or_more}
use Rattle.number.specs.Agree.{within}
use Rattle.refusal.specs.Answer.{Answer, given, refused, and_then}
use Rattle.anlz.specs.declared.Section.{Section}
use Rattle.anlz.specs.Bytes.{envelope_byte}
use Rattle.anlz.proofs.SectionsAgree.{tag_among}
use Rattle.entries.specs.Entries.{entry_at, fills}
use Rattle.entries.specs.Bytes.{in_entry}
use Rattle.entries.proofs.EntriesAgree.{entry_behind, entries_behind}
use Rattle.beat_grid.specs.Beat.{beat_size}
use Rattle.beat_grid.specs.Grid.{len_beats, grid_in, grid_section}
use Rattle.beat_grid.specs.Questions.{counted}
use Rattle.grid_depend.specs.Bytes.{bar_byte, count_byte, has_beat, beat_byte, both_byte, in_grid, relevant}

-- no bar position stands before the first beat
bar_among : (count i : ℕ) → bar_byte count i ≡ true → leb (entry_at beat_size 0) i ≡ true
bar_among count i e = le-leb (entry_at beat_size 0) i (entries_behind (within 0 2) beat_size count i e)

module _ (tag : Bytes) (i : ℕ) where
  tag_count_among : count_byte tag i ≡ true → both_byte tag i ≡ true
  unfolding count_byte both_byte
  tag_count_among e =
      on (within 0x14 4 i) (λ h. or_left _ h)
      (λ h. let both = both_true (fills beat_size (len_beats tag) tag) (bar_byte (len_beats tag) i) (rw h at e) in
      or_right (within 0x14 4 i) (bar_among (len_beats tag) i both.1))

  tag_beat_among : (k : ℕ) → beat_byte k tag i ≡ true → both_byte tag i ≡ true
  unfolding beat_byte both_byte
  tag_beat_among k e =
      on (count_byte tag i) tag_count_among
      (λ h. let both = both_true (has_beat k (and_then (grid_in tag) counted)) (in_entry (within 0 beat_size) beat_size k i) (rw h at e) in
      or_right (within 0x14 4 i) (le-leb (entry_at beat_size 0) i (entry_behind (within 0 beat_size) beat_size k i both.1)))

-- where bytes of a tag are among others, so are those of the file
module _ (fewer more : Bytes → ℕ → Bool) (among : (tag : Bytes) (i : ℕ) → fewer tag i ≡ true → more tag i ≡ true) (file : Bytes) (i : ℕ) where
  grid_among : (section : Answer Section) → in_grid fewer file section i ≡ true → in_grid more file section i ≡ true
  grid_among (given section) e = tag_among fewer more among file section i e
  grid_among (refused f) e = absurd (false≢true e)

  file_among : relevant fewer file i ≡ true → relevant more file i ≡ true
  unfolding relevant
  file_among e = or_more (envelope_byte file i) (grid_among (grid_section file)) e

pub count_among : (file : Bytes) (i : ℕ) → relevant count_byte file i ≡ true → relevant both_byte file i ≡ true
count_among = file_among count_byte both_byte tag_count_among

pub beat_among : (k : ℕ) (file : Bytes) (i : ℕ) → relevant (beat_byte k) file i ≡ true → relevant both_byte file i ≡ true
beat_among k = file_among (beat_byte k) both_byte (λ tag i. tag_beat_among tag i k)
