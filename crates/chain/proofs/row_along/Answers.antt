-- `chain::row_along` meets its contract: by the loop's invariant `Locating` (proofs/RowLoop).
use Rattle.chain.proofs.PagePart.{part_next}
use Rattle.chain.proofs.RowLoop.{row_on, here, next, end}
use Rattle.chain.proofs.row_along.Goals as goal

pub returns-in-Ok : goal.returns-in-Ok
returns-in-Ok c =
    let found = row_on _ _ _ _ c.part-bytes.ensures c.row_at.ensures.0 in
    here c.loop.invariant c.loop-test.true (rw c.in-Ok.is at found)

pub loop-preserved : goal.loop-preserved
loop-preserved c =
    let found = row_on _ _ _ _ c.part-bytes.ensures c.row_at.ensures.0 in
    next c.loop.invariant c.loop-test.true (rw c.in-Err.is at found) (part_next _ _ _ c.part-bytes.ensures c.next-page.ensures)

pub returns : goal.returns
returns c = end c.loop.invariant c.loop-test.false
