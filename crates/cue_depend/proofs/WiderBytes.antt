-- Rule 14.31: the bytes that are relevant for cue k are among those that are said to be relevant for every cue (`cue_among`). Rests on the
-- definitions, and on entries standing from byte `18` on (entries/EntriesAgree).
use mathlib.Core.Path.{◌≡◌}
use mathlib.Core.Bool.{true, false≢true}
use mathlib.Core.List.{List, [], ◌∷◌}
use Prim.Native.Nat.{ℕ, ◌-◌}
use lib.Dec.{leb}
use borrow.Author.Tests.{le-leb}
use Rattle.lists.specs.Alias.{Bytes}
use Rattle.lists.proofs.Choice.{on, both_true, or_left, or_right, or_more}
use Rattle.number.specs.Agree.{within}
use Rattle.refusal.specs.Answer.{Answer, given, refused}
use Rattle.anlz.specs.declared.Section.{Section}
use Rattle.anlz.specs.Section.{tag_of}
use Rattle.anlz.specs.Sections.{sections}
use Rattle.anlz.specs.All.{all_with}
use Rattle.anlz.specs.Bytes.{envelope_byte, in_tag, in_tags}
use Rattle.anlz.proofs.SectionsAgree.{tag_among, tags_among}
use Rattle.entries.specs.Entries.{entries_start, entry, fills}
use Rattle.entries.specs.Bytes.{in_entries}
use Rattle.entries.proofs.EntriesAgree.{entry_behind, entries_behind}
use Rattle.cue_list.specs.Cue.{cue_size}
use Rattle.cue_list.specs.CueList.{pcob, len_cues, lists_hold}
use Rattle.cue_list.specs.Questions.{cue_lists}
use Rattle.cue_depend.specs.Bytes.{judged_byte, list_byte, own_byte, entry_byte, cue_byte, lists_byte, relevant, every_byte, every_list_byte, every_relevant}

-- what is judged of a list, and what is relevant of an entry
module _ (tag : Bytes) (i : ℕ) where
  list_among : list_byte tag i ≡ true → every_byte tag i ≡ true
  unfolding list_byte every_byte
  list_among e =
      on (within 0x0c 4 i) (λ h. or_left _ h)
      (λ h.
      on (within 0x12 2 i) (λ g. or_right (within 0x0c 4 i) (or_left _ g))
      (λ g.
      let both = both_true (fills cue_size (len_cues tag) tag) (in_entries judged_byte cue_size (len_cues tag) i) (rw (h, g) at e) in
      or_right (within 0x0c 4 i) (or_right (within 0x12 2 i) (le-leb entries_start i (entries_behind judged_byte cue_size (len_cues tag) i both.1)))))

  entry_among : (k : ℕ) → entry_byte k tag i ≡ true → every_byte tag i ≡ true
  unfolding every_byte
  entry_among k e =
      or_right (within 0x0c 4 i) (or_right (within 0x12 2 i) (le-leb entries_start i (entry_behind (own_byte (entry cue_size tag k)) cue_size k i e)))

module _ (file : Bytes) (i : ℕ) where
  own_among : (k : ℕ) (lists : List Section) → cue_byte k file lists i ≡ true → in_tags every_byte file lists i ≡ true
  unfolding cue_byte in_tags
  own_among k [] e = e
  own_among k (list ∷ rest) e =
      let count = len_cues (tag_of file list) in
      on (leb count k)
      (λ h. or_right (in_tag every_byte file list i) (own_among (k - count) rest (rw h at e)))
      (λ h. or_left _ (tag_among (entry_byte k) every_byte (λ tag j. entry_among tag j k) file list i (rw h at e)))

  sections_among : (k : ℕ) (all : Answer (List Section)) → lists_byte k file all i ≡ true → every_list_byte file all i ≡ true
  sections_among k (given all) e =
      on (in_tags list_byte file (all_with pcob all) i) (tags_among list_byte every_byte list_among file (all_with pcob all) i)
      (λ h. own_among k (all_with pcob all) (both_true (lists_hold (cue_lists file all)) (cue_byte k file (all_with pcob all) i) (rw h at e)).1)
  sections_among k (refused f) e = absurd (false≢true e)

pub cue_among : (k : ℕ) (file : Bytes) (i : ℕ) → relevant k file i ≡ true → every_relevant file i ≡ true
unfolding relevant every_relevant
cue_among k file i e = or_more (envelope_byte file i) (sections_among file i k (sections file)) e
