-- Rules 14.20, 14.23 to 14.25: cue k of an ANLZ file, counted through all its cue lists.
use Rattle.std.specs.Prelude.{not, List, map, ℕ}
use Rattle.lists.specs.Alias.{Bytes}
use Rattle.refusal.specs.Fault.{fault}
use Rattle.refusal.specs.Answer.{Answer, given, refuse_if, and_then}
use Rattle.anlz.specs.declared.Section.{Section}
use Rattle.anlz.specs.Section.{tag_of}
use Rattle.anlz.specs.Sections.{sections}
use Rattle.anlz.specs.All.{all_with}
use Rattle.anlz.specs.Element.{element_at}
use Rattle.cue_list.specs.declared.Cue.{Cue}
use Rattle.cue_list.specs.CueList.{pcob, lists_hold, all_cues}

-- Rule 14.20: the bytes of each cue list among these sections, in file order
abbrev pub cue_lists : (file : Bytes) → List Section → List Bytes
cue_lists file all = map (tag_of file) (all_with pcob all)

-- Rule 14.23: the cues of these lists; one that does not hold refuses them all
unfoldable pub cues_of : (tags : List Bytes) → Answer (List Cue)
cues_of tags = refuse_if (not (lists_hold tags)) (fault 26 0) (given (all_cues tags))

-- the cues of the file
unfoldable pub cues : (file : Bytes) → Answer (List Cue)
cues file = and_then (sections file) (λ (all : List Section). cues_of (cue_lists file all))

-- Rule 14.24
unfoldable pub ask_cue : (file : Bytes) (k : ℕ) → Answer Cue
ask_cue file k = and_then (cues file) (element_at k)
