-- Rules 14.20, 14.21, 14.23 and 14.24: a cue list, which is a section PCOB: its fields, when it holds, and its cues in order.
use Rattle.std.specs.Prelude.{Bool, true, ◌&&◌, ◌||◌, cond, List, [], ◌∷◌, ◌++◌, map, ℕ, eqb}
use Rattle.lists.specs.Alias.{Bytes}
use Rattle.number.specs.Number.{be16, be32}
use Rattle.anlz.specs.Header.{four_bytes}
use Rattle.entries.specs.Entries.{fills, entries}
use Rattle.entries.specs.Every.{every_entry}
use Rattle.cue_list.specs.declared.CueListType.{CueListType}
use Rattle.cue_list.specs.declared.CueListType.TheVariants.{Memory, Hot}
use Rattle.cue_list.specs.declared.Cue.{Cue}
use Rattle.cue_list.specs.Cue.{cue_size, cue_holds, cue_of}

-- P, C, O, B
abbrev pub pcob : ℕ
pcob = four_bytes 0x50 0x43 0x4f 0x42

-- published as type
abbrev pub list_type : (tag : Bytes) → ℕ
list_type tag = be32 tag 0x0c

abbrev pub len_cues : (tag : Bytes) → ℕ
len_cues tag = be16 tag 0x12

abbrev pub cue_entries : (tag : Bytes) → List Bytes
cue_entries tag = entries cue_size (len_cues tag) tag

abbrev pub is_memory : (tag : Bytes) → Bool
is_memory tag = eqb (list_type tag) 0

abbrev pub is_hot : (tag : Bytes) → Bool
is_hot tag = eqb (list_type tag) 1

-- is true exactly when the type is 0 or 1, the entries fill the section, and each of them holds
unfoldable pub list_holds : (tag : Bytes) → Bool
list_holds tag = (is_memory tag || is_hot tag) && (fills cue_size (len_cues tag) tag && every_entry cue_holds (cue_entries tag))

-- of a list that holds: what is no list of memory cues is one of hot cues
unfoldable pub list_type_of : (tag : Bytes) → CueListType
list_type_of tag = cond (is_memory tag) Memory Hot

abbrev pub cues_in : (tag : Bytes) → List Cue
cues_in tag = map (cue_of (list_type_of tag)) (cue_entries tag)

-- is true exactly when every list holds
unfoldable pub lists_hold : (tags : List Bytes) → Bool
lists_hold [] = true
lists_hold (tag ∷ tags) = list_holds tag && lists_hold tags

-- the cues of all lists, one list behind the other
unfoldable pub all_cues : (tags : List Bytes) → List Cue
all_cues [] = []
all_cues (tag ∷ tags) = cues_in tag ++ all_cues tags
