-- `chain::fill_along` meets its contract, by the loop's invariant `Filling` (proofs/FillLoop).
use mathlib.Core.Path.{refl}
use Rattle.chain.proofs.FillLoop.{end, short, next}
use Rattle.chain.proofs.PagePart.{part_next}
use Rattle.chain.proofs.fill_along.Goals as goal

pub returns-then-list-at : goal.returns-then-list-at
returns-then-list-at c =
    let inv = c.loop.invariant in
    let wrote = c.fill_page-found.ensures in
    short inv _ wrote.1 c.loop-test.true wrote.0 refl c.if-list-at.true

pub loop-preserved : goal.loop-preserved
loop-preserved c =
    let inv = c.loop.invariant in
    let wrote = c.fill_page-found.ensures in
    next inv _ wrote.1 c.loop-test.true wrote.0 refl c.if-list-at.false (part_next _ _ _ c.part.ensures c.next-page.ensures)

pub returns : goal.returns
returns c = end c.loop.invariant c.loop-test.false
