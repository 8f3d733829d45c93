-- `anlz::first_section` meets its contract: by the loop's invariant `SectionsLeft` (proofs/SectionsLoop), with what is found so far (proofs/FirstLoop).
use Rattle.anlz.specs.First.{first_section}
use Rattle.anlz.proofs.SectionsLoop.{SectionsLeft}
use Rattle.anlz.proofs.FirstLoop.{found_among}
use Rattle.anlz.proofs.first_section.Given as goal

abbrev pub invariant-loop-next : goal.invariant-loop-next
invariant-loop-next l = SectionsLeft l.next-iterator (first_section l.file l.code) (found_among l.code l.first)
