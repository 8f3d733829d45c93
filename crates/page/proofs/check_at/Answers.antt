-- `page::check_at` meets its contract: a row that starts past the index has no byte, and no row fits there.
use mathlib.Core.Path.{◌∙◌}
use native.Mathlib.Nat.{le_of_lt}
use lib.ListN.{drop_of_length-le}
use Rattle.row.proofs.GoodRow.{empty_row}
use Rattle.lists.proofs.Part.{part_rest}
use Rattle.page.proofs.check_at.Goals as goal

pub returns-then-before-start : goal.returns-then-before-start
returns-then-before-start c = rw (drop_of_length-le c.args.before.now (le_of_lt c.if-before-start.true), empty_row c.args.table)

pub returns : goal.returns
returns c = c.check_row.ensures ∙ rw part_rest
