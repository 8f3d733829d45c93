-- `sarvoltig_packet` meets its contract: `intake::deliver_packet` gives the answer, the memory and the results, and `reply` the code and the values.
use Rattle.std.proofs.Common.{ap}
use Rattle.intake.specs.Packet.{PacketOutcome}
use Rattle.c_reply.specs.Reply.{reply_to}
use Rattle.c_reply.proofs.ReplyCarriesOver.{replied}
use Rattle.c_replies.specs.Replies.{packet_reply}
use Rattle.c_interface.proofs.sarvoltig_packet.Goals as goal

pub returns : goal.returns
returns c =
    let e = c.deliver_packet.ensures in
    let answer = replied (reply_to packet_reply) _ (ap (λ (o : PacketOutcome). o.answer) e) c.reply.ensures in
    rw (← c.new.ensures) (record { replied = answer; memory_after = ap (λ (o : PacketOutcome). o.memory) e; codes_after = ap (λ (o : PacketOutcome). o.results) e })
