-- Rule 14.30: two files that agree on the relevant bytes of their lists judge them alike (`lists_agree`), and have the same cue k among them
-- (`cues_agree`), so the same answer (`cue_decided`). Rests on lists that agree (ListAgree) and on the sections of files that agree on the
-- envelopes (anlz/SectionsAgree).
use mathlib.Core.Path.{◌≡◌, refl, sym, ◌∙◌}
use mathlib.Core.List.{List, [], ◌∷◌, map}
use Prim.Native.Nat.{ℕ, ◌-◌}
use lib.Dec.{leb}
use borrow.Author.Tests.{leb-true, leb-false}
use Rattle.lists.specs.Alias.{Bytes}
use Rattle.lists.proofs.Choice.{on, or_left, or_right}
use Rattle.number.specs.Agree.{Agree, DecidedBy}
use Rattle.number.proofs.NumberAgree.{agree_less}
use Rattle.refusal.specs.Answer.{Answer, given, refused, and_then}
use Rattle.anlz.specs.declared.Section.{Section}
use Rattle.anlz.specs.Section.{tag_of}
use Rattle.anlz.specs.Sections.{sections}
use Rattle.anlz.specs.All.{all_with}
use Rattle.anlz.specs.Element.{element_at}
use Rattle.anlz.specs.Bytes.{envelope_byte, in_tags}
use Rattle.anlz.proofs.SectionsAgree.{sections_agree, tag_bytes_agree, first_tag_agree, rest_tags_agree}
use Rattle.cue_list.specs.CueList.{pcob, len_cues, lists_hold, all_cues}
use Rattle.cue_list.specs.Questions.{cue_lists, cues_of, cues, ask_cue}
use Rattle.cue_list.proofs.CueSearch.{cue_here, cue_behind}
use Rattle.cue_depend.specs.Bytes.{list_byte, entry_byte, cue_byte, lists_byte, relevant}
use Rattle.cue_depend.proofs.ListAgree.{count_agree, holds_agree, cue_agree}

lists_agree : {s t : Bytes} (lists : List Section) → Agree (in_tags list_byte s lists) s t → lists_hold (map (tag_of s) lists) ≡ lists_hold (map (tag_of t) lists)
unfolding lists_hold
lists_agree [] a = refl
lists_agree (list ∷ rest) a = rw (holds_agree (first_tag_agree list_byte list rest a), lists_agree rest (rest_tags_agree list_byte list rest a))

cues_agree : {s t : Bytes} (k : ℕ) (lists : List Section) → Agree (in_tags list_byte s lists) s t → Agree (cue_byte k s lists) s t
    → element_at k (all_cues (map (tag_of s) lists)) ≡ element_at k (all_cues (map (tag_of t) lists))
unfolding cue_byte
cues_agree k [] a own = refl
cues_agree {s} {t} k (list ∷ rest) a own =
    on (leb count k)
    (λ h.
    let past = leb-true count k h in
    let later = cues_agree (k - count) rest (rest_tags_agree list_byte list rest a) (agree_less (λ i e. rw h e) own) in
    cue_behind (tag_of s list) (map (tag_of s) rest) k past ∙ later
    ∙ rw same (sym (cue_behind (tag_of t list) (map (tag_of t) rest) k (rw same at past))))
    (λ h.
    let inside = leb-false count k h in
    let here = tag_bytes_agree (entry_byte k) list (agree_less (λ i e. rw h e) own) in
    cue_here (tag_of s list) (map (tag_of s) rest) k inside ∙ rw (cue_agree k (first_tag_agree list_byte list rest a) here)
    (sym (cue_here (tag_of t list) (map (tag_of t) rest) k (rw same at inside))))
  where
    count : ℕ
    count = len_cues (tag_of s list)

    same : len_cues (tag_of s list) ≡ len_cues (tag_of t list)
    same = count_agree (first_tag_agree list_byte list rest a)

-- the cues of the sections of two files
by_sections : {s t : Bytes} (k : ℕ) (all : Answer (List Section)) → Agree (lists_byte k s all) s t
    → and_then (and_then all (λ (x : List Section). cues_of (cue_lists s x))) (element_at k)
    ≡ and_then (and_then all (λ (x : List Section). cues_of (cue_lists t x))) (element_at k)
unfolding cues_of
by_sections k (refused f) a = refl
by_sections {s} {t} k (given all) a =
    on (lists_hold (cue_lists s all))
    (λ h.
    let own = agree_less (λ i e. or_right (in_tags list_byte s (all_with pcob all) i) (rw h e)) a in
    rw (h, ← lists_agree (all_with pcob all) judged, h) (cues_agree k (all_with pcob all) judged own))
    (λ h. rw (h, ← lists_agree (all_with pcob all) judged, h))
  where
    judged : Agree (in_tags list_byte s (all_with pcob all)) s t
    judged = agree_less (λ i e. or_left _ e) a

pub cue_decided : (k : ℕ) (file : Bytes) → DecidedBy (relevant k file) (λ (other : Bytes). ask_cue other k) file
unfolding relevant ask_cue cues
cue_decided k s t a =
    rw (← sections_agree (agree_less (λ i e. or_left _ e) a))
    (by_sections k (sections s) (agree_less (λ i e. or_right (envelope_byte s i) e) a))
