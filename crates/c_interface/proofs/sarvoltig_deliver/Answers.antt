-- `sarvoltig_deliver` meets its contract: `intake::deliver` gives the answer and the memory, and `reply` the code and the values.
use Rattle.std.proofs.Common.{ap}
use Rattle.intake.specs.Deliver.{Outcome, taken_of}
use Rattle.c_replies.specs.Replies.{deliver_reply}
use Rattle.c_replies.proofs.Stands.{told}
use Rattle.c_interface.proofs.sarvoltig_deliver.Goals as goal

pub returns : goal.returns
returns c =
    let e = c.deliver.ensures in
    let answer = told deliver_reply taken_of _ _ (ap (λ (o : Outcome). o.answer) e) c.reply.ensures in
    rw (← c.new.ensures) (record { replied = answer; memory_after = ap (λ (o : Outcome). o.memory) e })
