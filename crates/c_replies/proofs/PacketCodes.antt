-- Rules 1.21 and 13.3: the result of a block in a packet is the code of its delivery.
use mathlib.Core.Path.{◌≡◌, refl}
use Rattle.refusal.specs.Answer.{Answer, given, refused}
use Rattle.intake.specs.Deliver.{Taken, taken, new, same}
use Rattle.intake.specs.Packet.{result_of}
use Rattle.c_reply.specs.Reply.{reply_to}
use Rattle.c_replies.specs.Replies.{deliver_reply}

pub result_is_code : (a : Answer Taken) → result_of a ≡ (reply_to deliver_reply a).code
result_is_code (given (taken new count)) = refl
result_is_code (given (taken same count)) = refl
result_is_code (refused f) = refl
