-- `page::RowIndex::read_rows` meets its contract, by the loop's invariant `Reading` (proofs/ReadLoop).
use mathlib.Core.Path.{sym, ◌∙◌}
use Rattle.std.proofs.lemmas.Result.{err_from_is_err_and}
use Rattle.page.proofs.EntriesInside.{held}
use Rattle.page.proofs.ReadLoop.{begin, end, absent, good, fault}
use Rattle.page.proofs.RowIndex.read_rows.Goals as goal
use Rattle.page.proofs.RowIndex.read_rows.Goals.{then-is_present+in_ok-judge_row, else-is_present}

pub loop-i-init : goal.loop-i-init
loop-i-init c = begin _ _ _ _ _

pub returns-in_err-judge_row : goal.returns-in_err-judge_row
returns-in_err-judge_row c =
    let e = err_from_is_err_and c.from_residual.result c.from_residual.ensures.1 in
    rw (e.1, e.2, ← c.before-before.ensures)
    (fault c.loop-i.invariant (rw (held c.self.view_is) at c.loop-i-test.true) (sym c.is_present.ensures ∙ c.if-is_present.true)
    c.row_of.ensures.0 c.in_err-judge_row.was c.judge_row.ensures)

pub loop-i-preserved : goal.loop-i-preserved
loop-i-preserved c =
    let inv = c.loop-i.invariant in
    let told = c.is_present.ensures in
    elim c.if-is_present.branch [
      | then-is_present+in_ok-judge_row w ↦ rw w.found-is (good inv (rw (held c.self.view_is) at c.loop-i-test.true) (sym told ∙ w.if-is_present.true) w.row_of.ensures.0 w.in_ok-judge_row.was w.judge_row.ensures)
      | else-is_present w ↦ rw w.found-is (absent inv (rw (held c.self.view_is) at c.loop-i-test.true) (sym told ∙ w.if-is_present.false))
    ]

pub returns : goal.returns
returns c = rw (← c.before-before.ensures) (end c.loop-i.invariant (rw (held c.self.view_is) at c.loop-i-test.false))
