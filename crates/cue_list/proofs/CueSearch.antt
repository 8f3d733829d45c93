-- Rules 14.23 and 14.24: searching the lists one after the other: the answer is that of the search so far and of the lists left.
use mathlib.Core.Path.{◌≡◌, refl, ◌∙◌}
use mathlib.Core.Bool.{not, true, false}
use mathlib.Core.List.{List, [], ◌∷◌}
use Prim.Native.Nat.{ℕ, ◌-◌, ◌<◌, ◌≤◌}
use lib.ListN.{length}
use lib.Dec.{leb, eqb}
use borrow.Author.Tests.{leb-true, leb-false}
use Rattle.lists.specs.Alias.{Bytes}
use Rattle.lists.proofs.Choice.{on}
use Rattle.refusal.specs.declared.Fault.{Fault}
use Rattle.refusal.specs.Fault.{fault}
use Rattle.refusal.specs.Answer.{Answer, given, refused, refuse_if, and_then}
use Rattle.refusal.proofs.Then.{then_then}
use Rattle.anlz.specs.declared.Section.{Section}
use Rattle.anlz.specs.Section.{tag_of}
use Rattle.anlz.specs.Sections.{first_place, sections}
use Rattle.anlz.specs.All.{all_with}
use Rattle.anlz.specs.Element.{element_at}
use Rattle.anlz.proofs.FileStart.{sections_refused}
use Rattle.anlz.proofs.ElementAt.{element_front, element_behind}
use Rattle.entries.specs.Entries.{entry}
use Rattle.entries.proofs.EntryElement.{made_counted, made_inside}
use Rattle.cue_list.specs.declared.Cue.{Cue}
use Rattle.cue_list.specs.declared.Search.{Search}
use Rattle.cue_list.specs.declared.Search.TheVariants as search
use Rattle.cue_list.specs.Cue.{cue_size, cue_of}
use Rattle.cue_list.specs.CueList.{pcob, len_cues, list_type_of, list_holds, cues_in, lists_hold, all_cues}
use Rattle.cue_list.specs.Questions.{cue_lists, cues_of, cues, ask_cue}
use Rattle.cue_list.specs.Private.{searched_good, searched, searched_section, ended}

-- the cues of a list: their number, and cue k
module _ (tag : Bytes) where
  pub cues_counted : length (cues_in tag) ≡ len_cues tag
  cues_counted = made_counted (cue_of (list_type_of tag)) cue_size (len_cues tag) tag

  pub cue_inside : (k : ℕ) → k < len_cues tag → element_at k (cues_in tag) ≡ given (cue_of (list_type_of tag) (entry cue_size tag k))
  cue_inside k h = made_inside (cue_of (list_type_of tag)) cue_size (len_cues tag) tag k h

-- cue k of a list and those behind it stands in the list, or behind it
module _ (tag : Bytes) (tags : List Bytes) (k : ℕ) where
  pub cue_here : k < len_cues tag → element_at k (all_cues (tag ∷ tags)) ≡ given (cue_of (list_type_of tag) (entry cue_size tag k))
  unfolding all_cues
  cue_here h = element_front k (cues_in tag) _ (rw (cues_counted tag) h) ∙ cue_inside tag k h

  pub cue_behind : len_cues tag ≤ k → element_at k (all_cues (tag ∷ tags)) ≡ element_at (k - len_cues tag) (all_cues tags)
  unfolding all_cues
  cue_behind h = rw (cues_counted tag) at (element_behind k (cues_in tag) (all_cues tags) (rw (cues_counted tag) h))

-- the answer, where the search has come so far and these lists are left
abbrev answer_left : Search → (tags : List Bytes) → Answer Cue
answer_left (search.Left k) tags = and_then (cues_of tags) (element_at k)
answer_left (search.Found cue) tags = refuse_if (not (lists_hold tags)) (fault 26 0) (given cue)
answer_left search.BadList tags = refused (fault 26 0)

answer_end : (s : Search) → answer_left s [] ≡ ended s
unfolding cues_of lists_hold all_cues element_at
answer_end (search.Left k) = refl
answer_end (search.Found cue) = refl
answer_end search.BadList = refl

module _ (tag : Bytes) (tags : List Bytes) where
  answer_bad : (s : Search) → list_holds tag ≡ false → answer_left s (tag ∷ tags) ≡ refused (fault 26 0)
  unfolding cues_of lists_hold
  answer_bad (search.Left k) e = rw e
  answer_bad (search.Found cue) e = rw e
  answer_bad search.BadList e = refl

  answer_good : (s : Search) → list_holds tag ≡ true → answer_left s (tag ∷ tags) ≡ answer_left (searched_good s tag) tags
  unfolding cues_of lists_hold
  answer_good (search.Left k) e =
      on (lists_hold tags)
      (λ h.
      on (leb (len_cues tag) k)
      (λ l. rw (e, l, h) (cue_behind tag tags k (leb-true (len_cues tag) k l)))
      (λ l. rw (e, l, h) (cue_here tag tags k (leb-false (len_cues tag) k l))))
      (λ h. on (leb (len_cues tag) k) (λ l. rw (e, l, h)) (λ l. rw (e, l, h)))
  answer_good (search.Found cue) e = rw e
  answer_good search.BadList e = refl

  answer_more : (s : Search) → answer_left s (tag ∷ tags) ≡ answer_left (searched s tag) tags
  unfolding searched
  answer_more s = on (list_holds tag) (λ e. rw e (answer_good s e)) (λ e. rw e (answer_bad s e))

-- the same with the sections left
unfoldable pub answer_among : (file : Bytes) → Search → List Section → Answer Cue
answer_among file s all = answer_left s (cue_lists file all)

pub among_end : (file : Bytes) (s : Search) → answer_among file s [] ≡ ended s
unfolding answer_among all_with
among_end file s = answer_end s

pub among_more : (file : Bytes) (s : Search) {then : Search} (section : Section) → then ≡ searched_section s file section
    → (all : List Section) → answer_among file s (section ∷ all) ≡ answer_among file then all
unfolding answer_among all_with searched_section
among_more file s section e all =
    on (eqb section.code pcob)
    (λ q. rw (e, q) (answer_more (tag_of file section) (cue_lists file all) s))
    (λ q. rw (e, q))

-- where nothing is passed over yet, and where the file header is refused
module _ (file : Bytes) (k : ℕ) where
  pub among_start : ask_cue file k ≡ and_then (sections file) (answer_among file (search.Left k))
  unfolding ask_cue cues answer_among
  among_start = then_then (sections file) _ _

  pub cue_refused : {f : Fault} → refused f ≡ first_place file → refused f ≡ ask_cue file k
  unfolding ask_cue cues
  cue_refused e = rw (sections_refused file e)
