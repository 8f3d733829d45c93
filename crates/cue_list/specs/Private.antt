-- Definitions that only the contracts of private functions and the proofs cite.
use Rattle.std.specs.Prelude.{cond, ℕ, ◌-◌, leb, eqb}
use Rattle.lists.specs.Alias.{Bytes}
use Rattle.refusal.specs.Fault.{fault}
use Rattle.refusal.specs.Answer.{Answer, given, refused}
use Rattle.anlz.specs.declared.Section.{Section}
use Rattle.anlz.specs.Section.{tag_of}
use Rattle.entries.specs.Entries.{entry}
use Rattle.cue_list.specs.declared.Cue.{Cue}
use Rattle.cue_list.specs.declared.Search.{Search}
use Rattle.cue_list.specs.declared.Search.TheVariants as search
use Rattle.cue_list.specs.Cue.{cue_size, cue_of}
use Rattle.cue_list.specs.CueList.{pcob, len_cues, list_type_of, list_holds}

-- the search after one list more, a good one, where k cues are to be passed over
abbrev pub passed : (k : ℕ) (tag : Bytes) → Search
passed k tag = cond (leb (len_cues tag) k) (search.Left (k - len_cues tag)) (search.Found (cue_of (list_type_of tag) (entry cue_size tag k)))

-- the same of any search
abbrev pub searched_good : Search → (tag : Bytes) → Search
searched_good (search.Left k) tag = passed k tag
searched_good (search.Found cue) tag = search.Found cue
searched_good search.BadList tag = search.BadList

-- the search after any list
unfoldable pub searched : Search → (tag : Bytes) → Search
searched s tag = cond (list_holds tag) (searched_good s tag) search.BadList

-- the search after any section
unfoldable pub searched_section : Search → (file : Bytes) → Section → Search
searched_section s file section = cond (eqb section.code pcob) (searched s (tag_of file section)) s

-- the answer where no list is left
abbrev pub ended : Search → Answer Cue
ended (search.Left k) = refused (fault 18 0)
ended (search.Found cue) = given cue
ended search.BadList = refused (fault 26 0)
