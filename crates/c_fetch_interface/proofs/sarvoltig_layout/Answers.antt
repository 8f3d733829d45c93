-- `sarvoltig_layout` meets its contract: `export::layout` gives the answer, and `reply` the code and the values.
use Rattle.export.specs.declared.FileLayout.{FileLayout}
use Rattle.c_replies.specs.Replies.{layout_values}
use Rattle.c_replies.proofs.Stands.{found_told}
use Rattle.c_fetch_interface.proofs.sarvoltig_layout.Goals as goal

pub returns : goal.returns
returns c =
    rw (← c.new.ensures) (found_told layout_values (λ (x : FileLayout). x) _ _ c.layout.ensures c.reply.ensures)
