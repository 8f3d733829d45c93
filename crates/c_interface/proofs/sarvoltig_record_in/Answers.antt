-- `sarvoltig_record_in` meets its contract: `export::record_in` gives the answer, and `reply` the code and the values.
use Rattle.export.specs.Record.{record_on_of}
use Rattle.c_replies.specs.Replies.{record_values}
use Rattle.c_replies.proofs.Stands.{found_told}
use Rattle.c_interface.proofs.sarvoltig_record_in.Goals as goal

pub returns : goal.returns
returns c =
    rw (← c.new.ensures) (found_told record_values record_on_of _ _ c.record_in.ensures c.reply.ensures)
