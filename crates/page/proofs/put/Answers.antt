-- `page::put` meets its contract: a store past the end is none.
use mathlib.Core.Path.{sym}
use lib.Seq.{set_out}
use Rattle.page.proofs.put.Goals as goal

pub returns-else-at-list : goal.returns-else-at-list
returns-else-at-list c = sym (set_out _ _ _ c.if-at-list.false)
