-- `cue_list::cue_at` meets its contract: by the loop's invariant `SectionsLeft` (anlz/SectionsLoop), with the answer for the search so far (proofs/CueSearch).
use Rattle.anlz.proofs.SectionsLoop.{SectionsLeft}
use Rattle.cue_list.specs.Questions.{ask_cue}
use Rattle.cue_list.proofs.CueSearch.{answer_among}
use Rattle.cue_list.proofs.cue_at.Given as goal

abbrev pub invariant-loop-next : goal.invariant-loop-next
invariant-loop-next l = SectionsLeft l.next-iterator (ask_cue l.file l.k) (answer_among l.file l.search)
