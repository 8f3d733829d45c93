-- Rule 8.1: a run is an opening that is not refused and then any list of calls, each with both buffers as the call before left them.
use Rattle.std.specs.Prelude.{List, [], ◌∷◌, ◌≡◌, ℕ}
use Rattle.std.proofs.Math.Option.{none}
use Rattle.refusal.specs.Answer.{fault_in}
use Rattle.bitmap.specs.Count.{held_count}
use Rattle.intake.specs.Memory.{Memory, memory}
use Rattle.intake.specs.Open.{opening}
use Rattle.intake.specs.Deliver.{delivery}
use Rattle.intake.specs.Packet.{packet}
use Rattle.run.specs.Received.{Received, nothing, receive_each}
use Rattle.run.specs.Call.{Call, deliver, deliver_packet, ask, deliveries_of}

-- the opening is not refused
abbrev pub Opens : (len : ℕ) (before : Memory) → Type 0
Opens len before = fault_in (opening len before.image before.map).answer ≡ none

-- image and map after an opening
abbrev pub after_opening : (len : ℕ) (before : Memory) → Memory
after_opening len before = memory before.image (opening len before.image before.map).map

-- image and map after a call: a question writes neither
abbrev pub after_call : (len : ℕ) (call : Call) (m : Memory) → Memory
after_call len (deliver d) m = (delivery len m d.block d.piece).memory
after_call len (deliver_packet p) m = (packet len m p.blocks p.pieces p.results).memory
after_call len (ask q) m = m

-- Rules 8.5 and 8.16: the received blocks after a call
abbrev pub receive_call : (len : ℕ) (call : Call) (r : Received) → Received
receive_call len call r = receive_each len (deliveries_of call) r

-- the same after a list of calls
unfoldable pub after_calls : (len : ℕ) (calls : List Call) (m : Memory) → Memory
after_calls len [] m = m
after_calls len (call ∷ calls) m = after_calls len calls (after_call len call m)

unfoldable pub receive_calls : (len : ℕ) (calls : List Call) (r : Received) → Received
receive_calls len [] r = r
receive_calls len (call ∷ calls) r = receive_calls len calls (receive_call len call r)

-- image and map at the end of a run, and the blocks received in it
abbrev pub run_memory : (len : ℕ) (before : Memory) (calls : List Call) → Memory
run_memory len before calls = after_calls len calls (after_opening len before)

abbrev pub run_received : (len : ℕ) (calls : List Call) → Received
run_received len calls = receive_calls len calls nothing

-- Rule 8.9: two runs that end alike, but for the replies to a further call
pub record EndAlike (len : ℕ) (m n : Memory) : Type 0 where
  pub image : m.image ≡ n.image
  pub map : m.map ≡ n.map
  pub count : held_count len m.map ≡ held_count len n.map
