-- `sarvoltig_missing` meets its contract: the library gives the answer, and `reply_missing` its code and values.
use Rattle.c_replies.specs.Replies.{missing_reply}
use Rattle.c_reply.proofs.ReplyCarriesOver.{replied}
use Rattle.c_fetch_interface.proofs.sarvoltig_missing.Goals as goal

pub returns : goal.returns
returns c = rw (← c.new.ensures) (replied missing_reply _ c.next_missing.ensures c.reply_missing.ensures)
