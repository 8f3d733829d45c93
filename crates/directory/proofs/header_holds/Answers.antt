-- `directory::header_holds` meets its contract: its tests are those of `header_holds`, in that order.
use borrow.Author.Rules.{rules}
use borrow.Author.Tests.{eq-eqb, ne_eqb}
use Rattle.lists.proofs.Choice.{tests}
use Rattle.directory.specs.Header.{header_holds}
use Rattle.directory.proofs.header_holds.Goals as goal
use Rattle.directory.proofs.header_holds.Goals.{then-u32_at-eq0, else-u32_at-eq0}

pub returns-then-allowed_page : goal.returns-then-allowed_page
unfolding header_holds
returns-then-allowed_page c =
    elim c.if-u32_at-eq0.branch [
      | then-u32_at-eq0 w ↦ rw (← c.u32_at.ensures, eq-eqb _ _ w.if-u32_at-eq0.true, ← w.u32_at-then-u32_at-eq0.ensures, ← w.allowed_page.ensures, ← w.value-is, c.if-allowed_page.true, ← c.u32_at-then-allowed_page.ensures) c.tables_hold.ensures
      | else-u32_at-eq0 w ↦ search (tests, rules)
    ]

pub returns-else-allowed_page : goal.returns-else-allowed_page
unfolding header_holds
returns-else-allowed_page c =
    elim c.if-u32_at-eq0.branch [
      | then-u32_at-eq0 w ↦ rw (← c.u32_at.ensures, eq-eqb _ _ w.if-u32_at-eq0.true, ← w.u32_at-then-u32_at-eq0.ensures, ← w.allowed_page.ensures, ← w.value-is, c.if-allowed_page.false)
      | else-u32_at-eq0 w ↦ rw (w.value-is, ← c.u32_at.ensures, ne_eqb _ _ w.if-u32_at-eq0.false)
    ]
