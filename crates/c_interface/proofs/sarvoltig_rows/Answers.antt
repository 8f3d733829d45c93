-- `sarvoltig_rows` meets its contract: `export::rows` gives the answer and the list, and `reply` the code and the values.
use Rattle.std.proofs.Common.{ap}
use Rattle.chain.specs.Tally.{progress_of}
use Rattle.export.specs.Rows.{RowsOutcome}
use Rattle.c_replies.specs.Replies.{walk_reply}
use Rattle.c_replies.proofs.Stands.{told}
use Rattle.c_interface.proofs.sarvoltig_rows.Goals as goal

pub returns : goal.returns
returns c =
    let e = c.rows.ensures in
    let answer = told walk_reply progress_of _ _ (ap (λ (o : RowsOutcome). o.answer) e) c.reply.ensures in
    rw (← c.new.ensures) (record { replied = answer; list_after = ap (λ (o : RowsOutcome). o.list) e })
