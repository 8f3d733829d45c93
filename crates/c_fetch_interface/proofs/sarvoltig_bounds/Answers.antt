-- `sarvoltig_bounds` meets its contract: `export::bounds` gives the answer, and `reply` the code and the values.
use Rattle.export.specs.declared.TableBounds.{TableBounds}
use Rattle.c_replies.specs.Replies.{bounds_values}
use Rattle.c_replies.proofs.Stands.{found_told}
use Rattle.c_fetch_interface.proofs.sarvoltig_bounds.Goals as goal

pub returns : goal.returns
returns c =
    rw (← c.new.ensures) (found_told bounds_values (λ (x : TableBounds). x) _ _ c.bounds.ensures c.reply.ensures)
