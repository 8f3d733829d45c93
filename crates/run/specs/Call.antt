-- Rules 8.1, 8.2 and 8.16: the calls of a run: what each is given besides the record and both buffers, and what it answers.
-- The answers are those of the definitions that the contracts cite.
use Rattle.std.specs.Prelude.{List, [], ◌∷◌, ℕ}
use Rattle.lists.specs.Alias.{Bytes, Words, Places}
use Rattle.refusal.specs.Answer.{Answer, given, refused}
use Rattle.intake.specs.Memory.{Memory}
use Rattle.intake.specs.Deliver.{Delivery, Taken, delivery}
use Rattle.intake.specs.Packet.{deliveries_in, PacketOutcome, packet}
use Rattle.export.specs.Rows.{RowsOutcome, ask_rows}
use Rattle.chain.specs.Found.{Found}
use Rattle.export.specs.Record.{RecordOn, ask_record}
use Rattle.export.specs.Text.{TextPlace, ask_text}

-- Rule 5.19; all rows with any list
pub data Question : Type 0 where
  all_rows : (table : ℕ) → (list : Places) → Question
  one_record : (table k : ℕ) → Question
  one_text : (table k slot : ℕ) → Question

-- the block numbers, the pieces end to end, and the list for the results
pub record Packet : Type 0 where
  pub blocks : Words
  pub pieces : Bytes
  pub results : Words

pub data Call : Type 0 where
  deliver : Delivery → Call
  deliver_packet : Packet → Call
  ask : Question → Call

-- the deliveries of a packet, none where it is refused
abbrev pub deliveries_given : Answer (List Delivery) → List Delivery
deliveries_given (given all) = all
deliveries_given (refused f) = []

-- Rule 8.16: the deliveries of a call, from its arguments alone
abbrev pub deliveries_of : Call → List Delivery
deliveries_of (deliver d) = d ∷ []
deliveries_of (deliver_packet p) = deliveries_given (deliveries_in p.blocks p.pieces p.results)
deliveries_of (ask q) = []

-- what a call answers; a packet with its results, and all rows with the list, afterwards
pub data CallReply : Type 0 where
  delivered : Answer Taken → CallReply
  delivered_packet : Answer ℕ → Words → CallReply
  rows : RowsOutcome → CallReply
  row : Answer (Found RecordOn) → CallReply
  text : Answer (Found TextPlace) → CallReply

-- a question asked in a file of len bytes, with image and map as they are
abbrev pub answer : (len : ℕ) (m : Memory) (q : Question) → CallReply
answer len m (all_rows table list) = rows (ask_rows len m table list)
answer len m (one_record table k) = row (ask_record len m table k)
answer len m (one_text table k slot) = text (ask_text len m table k slot)

abbrev pub packet_reply : PacketOutcome → CallReply
packet_reply o = delivered_packet o.answer o.results

abbrev pub reply : (len : ℕ) (m : Memory) (call : Call) → CallReply
reply len m (deliver d) = delivered (delivery len m d.block d.piece).answer
reply len m (deliver_packet p) = packet_reply (packet len m p.blocks p.pieces p.results)
reply len m (ask q) = answer len m q
