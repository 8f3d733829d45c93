-- A packet in a run (specs/Packet). Rules 8.16 and 8.17.
--     after-each, receive-each     deliveries one by one, as calls
--     packet_memory, packet_results, packet_count     where refusals 1 to 4 do not apply, a packet leaves and answers what its deliveries do
--     packet_fault                 and 6 and 17 alone can refuse it
-- Rests on the packet past refusals 1 to 4 (intake: PacketFold).
use mathlib.Core.Path.{◌≡◌, refl, sym, ap, ◌∙◌}
use mathlib.Core.List.{List, [], ◌∷◌}
use Prim.Native.Nat.{ℕ}
use Rattle.lists.specs.Write.{written}
use Rattle.lists.proofs.Choice.{never}
use Rattle.refusal.specs.Answer.{Answer, given, refused, fault_in}
use Rattle.bitmap.specs.Count.{held_count}
use Rattle.intake.specs.Memory.{Memory}
use Rattle.intake.specs.Sound.{Sound}
use Rattle.intake.specs.Deliver.{Delivery, delivery}
use Rattle.intake.specs.Packet.{PacketOutcome, deliveries_in, after_each, results_of_each, settled_packet, packet}
use Rattle.intake.proofs.PacketFold.{packet_settled}
use Rattle.run.specs.Received.{Received, receive, receive_each}
use Rattle.run.specs.Call.{Packet, deliver_packet, deliveries_given, deliveries_of, reply}
use Rattle.run.specs.Run.{after_call, after_calls, receive_calls}
use Rattle.run.specs.Refusal.{fault_in_reply}
use Rattle.run.specs.Packet.{one_by_one}

none_left : (len : ℕ) (m : Memory) → m ≡ after_each len m []
unfolding after_each
none_left len m = refl

none_written : (len : ℕ) (m : Memory) (list : List ℕ) → list ≡ written list (results_of_each len m [])
unfolding results_of_each
none_written len m list = refl

module _ (len : ℕ) where
  pub after-each : (deliveries : List Delivery) (m : Memory) → after_calls len (one_by_one deliveries) m ≡ after_each len m deliveries
  unfolding after_calls after_each
  after-each [] m = refl
  after-each (d ∷ rest) m = after-each rest (delivery len m d.block d.piece).memory

  pub receive-each : (deliveries : List Delivery) (r : Received) → receive_calls len (one_by_one deliveries) r ≡ receive_each len deliveries r
  unfolding receive_calls receive_each
  receive-each [] r = refl
  receive-each (d ∷ rest) r = receive-each rest (receive len d r)

  module _ (m : Memory) (passes : Sound len m) (p : Packet) where
    settled : packet len m p.blocks p.pieces p.results ≡ settled_packet len m p.results (deliveries_in p.blocks p.pieces p.results)
    settled = packet_settled len m p.blocks p.pieces p.results passes

    pub packet_memory : after_call len (deliver_packet p) m ≡ after_each len m (deliveries_of (deliver_packet p))
    packet_memory = ap (λ (o : PacketOutcome). o.memory) settled ∙ by (deliveries_in p.blocks p.pieces p.results)
      where
        by : (all : Answer (List Delivery)) → (settled_packet len m p.results all).memory ≡ after_each len m (deliveries_given all)
        by (given all) = refl
        by (refused f) = none_left len m

    pub packet_results : (packet len m p.blocks p.pieces p.results).results
        ≡ written p.results (results_of_each len m (deliveries_of (deliver_packet p)))
    packet_results = ap (λ (o : PacketOutcome). o.results) settled ∙ by (deliveries_in p.blocks p.pieces p.results)
      where
        by : (all : Answer (List Delivery)) → (settled_packet len m p.results all).results ≡ written p.results (results_of_each len m (deliveries_given all))
        by (given all) = refl
        by (refused f) = none_written len m p.results

    pub packet_count : {n : ℕ} → (packet len m p.blocks p.pieces p.results).answer ≡ given n → n ≡ held_count len (after_call len (deliver_packet p) m).map
    packet_count {n} e =
        by (deliveries_in p.blocks p.pieces p.results) (sym (ap (λ (o : PacketOutcome). o.answer) settled) ∙ e)
        ∙ sym (ap (λ (o : PacketOutcome). held_count len o.memory.map) settled)
      where
        by : (all : Answer (List Delivery)) → (settled_packet len m p.results all).answer ≡ given n
            → n ≡ held_count len (settled_packet len m p.results all).memory.map
        by (given all) f = cc
        by (refused r) f = never (cc)

    pub packet_fault : fault_in_reply (reply len m (deliver_packet p)) ≡ fault_in (deliveries_in p.blocks p.pieces p.results)
    packet_fault = ap (λ (o : PacketOutcome). fault_in o.answer) settled ∙ by (deliveries_in p.blocks p.pieces p.results)
      where
        by : (all : Answer (List Delivery)) → fault_in (settled_packet len m p.results all).answer ≡ fault_in all
        by (given all) = refl
        by (refused f) = refl
