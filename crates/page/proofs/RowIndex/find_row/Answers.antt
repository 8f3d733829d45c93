-- `page::RowIndex::find_row` meets its contract, by the loop's invariant `Finding` (proofs/RowLoop).
use mathlib.Core.Path.{sym, ◌∙◌}
use Rattle.page.proofs.EntriesInside.{held}
use Rattle.page.proofs.RowLoop.{begin, absent, next, here, end}
use Rattle.page.proofs.RowIndex.find_row.Goals as goal
use Rattle.page.proofs.RowIndex.find_row.Goals.{then-is_present+else-found-k, else-is_present}

pub loop-i-init : goal.loop-i-init
loop-i-init c = begin _ _ _ _

pub returns-then-found-k : goal.returns-then-found-k
returns-then-found-k c =
    let present = sym c.is_present.ensures ∙ c.if-is_present.true in
    (here c.loop-i.invariant (rw (held c.self.view_is) at c.loop-i-test.true) present c.row_of.ensures.0 c.if-found-k.true, c.row_of.ensures.1)

pub loop-i-preserved : goal.loop-i-preserved
loop-i-preserved c =
    let inv = c.loop-i.invariant in
    let told = c.is_present.ensures in
    elim c.if-is_present.branch [
      | then-is_present+else-found-k w ↦ rw w.found-is (next inv (rw (held c.self.view_is) at c.loop-i-test.true) (sym told ∙ w.if-is_present.true) w.if-found-k.false)
      | else-is_present w ↦ rw w.found-is (absent inv (rw (held c.self.view_is) at c.loop-i-test.true) (sym told ∙ w.if-is_present.false))
    ]

pub returns : goal.returns
returns c = (end c.loop-i.invariant (rw (held c.self.view_is) at c.loop-i-test.false), tt)
