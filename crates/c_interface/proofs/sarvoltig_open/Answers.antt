-- `sarvoltig_open` meets its contract: `intake::open` gives the answer and the map, and `reply` the code and the values.
use Rattle.std.proofs.Common.{ap}
use Rattle.intake.specs.Open.{Opening, file_of}
use Rattle.c_replies.specs.Replies.{open_reply}
use Rattle.c_replies.proofs.Stands.{told}
use Rattle.c_interface.proofs.sarvoltig_open.Goals as goal

pub returns : goal.returns
returns c =
    let e = c.«open».ensures in
    let answer = told open_reply file_of _ _ (ap (λ (o : Opening). o.answer) e) c.reply.ensures in
    record { replied = answer; map_after = ap (λ (o : Opening). o.map) e }
