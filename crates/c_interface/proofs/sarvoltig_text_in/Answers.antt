-- `sarvoltig_text_in` meets its contract: `export::text_in` gives the answer, and `reply` the code and the values.
use Rattle.export.specs.Text.{text_place_of}
use Rattle.c_replies.specs.Replies.{text_values}
use Rattle.c_replies.proofs.Stands.{found_told}
use Rattle.c_interface.proofs.sarvoltig_text_in.Goals as goal

pub returns : goal.returns
returns c =
    rw (← c.new.ensures) (found_told text_values text_place_of _ _ c.text_in.ensures c.reply.ensures)
