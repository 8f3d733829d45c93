-- Rules 14.30 and 14.31: the relevant bytes of an ANLZ file, those that an answer about a cue may depend on.
-- Rests on the envelopes and the bytes of a section (anlz/Bytes), and on the bytes of its entries (entries/Bytes).
use Rattle.std.specs.Prelude.{Bool, false, not, ◌&&◌, ◌||◌, cond, List, [], ◌∷◌, ℕ, ◌-◌, leb}
use Rattle.lists.specs.Alias.{Bytes}
use Rattle.number.specs.Agree.{within}
use Rattle.refusal.specs.Answer.{Answer, given, refused}
use Rattle.anlz.specs.declared.Section.{Section}
use Rattle.anlz.specs.Section.{tag_of}
use Rattle.anlz.specs.Sections.{sections}
use Rattle.anlz.specs.All.{all_with}
use Rattle.anlz.specs.Bytes.{envelope_byte, in_tag, in_tags}
use Rattle.entries.specs.Entries.{entries_start, entry, fills}
use Rattle.entries.specs.Bytes.{in_entry, in_entries}
use Rattle.cue_list.specs.Cue.{cue_size, is_point}
use Rattle.cue_list.specs.CueList.{pcob, len_cues, lists_hold}
use Rattle.cue_list.specs.Questions.{cue_lists}

-- of an entry, for whether it holds: code, length and kind
unfoldable pub judged_byte : (i : ℕ) → Bool
judged_byte i = within 0x00 4 i || (within 0x08 4 i || within 0x1c 1 i)

-- of a list, for whether it holds: type and number of cues and, where they fill the section, what is judged of each entry
unfoldable pub list_byte : (tag : Bytes) (i : ℕ) → Bool
list_byte tag i =
    within 0x0c 4 i || (within 0x12 2 i || (fills cue_size (len_cues tag) tag && in_entries judged_byte cue_size (len_cues tag) i))

-- of an entry that holds, for the cue that it is: hot cue number, kind, time and, unless it is a point, loop time
unfoldable pub own_byte : (entry : Bytes) (i : ℕ) → Bool
own_byte entry i = within 0x0c 4 i || (within 0x1c 1 i || (within 0x20 4 i || (not (is_point entry) && within 0x24 4 i)))

-- the same of entry k of a list
abbrev pub entry_byte : (k : ℕ) (tag : Bytes) (i : ℕ) → Bool
entry_byte k tag i = in_entry (own_byte (entry cue_size tag k)) cue_size k i

-- byte i of the file stands in the entry of cue k of these lists, where they have one, and is relevant for the cue. A cue behind the first
-- list has its number less that list's cues in the lists behind it
unfoldable pub cue_byte : (k : ℕ) (file : Bytes) (lists : List Section) (i : ℕ) → Bool
cue_byte k file [] i = false
cue_byte k file (list ∷ rest) i =
    cond (leb (len_cues (tag_of file list)) k) (cue_byte (k - len_cues (tag_of file list)) file rest i) (in_tag (entry_byte k) file list i)

-- Rule 14.30, for cue k: what is judged of every list and, where all hold, what is relevant of the entry of cue k
abbrev pub lists_byte : (k : ℕ) (file : Bytes) (all : Answer (List Section)) (i : ℕ) → Bool
lists_byte k file (given all) i =
    in_tags list_byte file (all_with pcob all) i || (lists_hold (cue_lists file all) && cue_byte k file (all_with pcob all) i)
lists_byte k file (refused f) i = false

unfoldable pub relevant : (k : ℕ) (file : Bytes) (i : ℕ) → Bool
relevant k file i = envelope_byte file i || lists_byte k file (sections file) i

-- of a list, for all cues: type, number of cues, and all bytes from the first entry on
unfoldable pub every_byte : (tag : Bytes) (i : ℕ) → Bool
every_byte tag i = within 0x0c 4 i || (within 0x12 2 i || leb entries_start i)

-- Rule 14.31, for every k: these of each list
abbrev pub every_list_byte : (file : Bytes) (all : Answer (List Section)) (i : ℕ) → Bool
every_list_byte file (given all) i = in_tags every_byte file (all_with pcob all) i
every_list_byte file (refused f) i = false

unfoldable pub every_relevant : (file : Bytes) (i : ℕ) → Bool
every_relevant file i = envelope_byte file i || every_list_byte file (sections file) i
