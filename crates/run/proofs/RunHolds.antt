-- Every run (specs/Run): an opening that passes refusals 1 to 3 and any list of calls.
--     run_holds      image, map and held count at the end are those of rules 8.6 and 8.7 for the received blocks
--     run_sound      refusals 1 to 4 never apply to a call of a run
--     run_alike      two runs of one length from equal image and map, with equal received blocks, end with the same memory
-- Rests on one step (proofs/HoldsKept, proofs/PacketCalls) and on what it determines (proofs/Determined).
use mathlib.Core.Path.{◌≡◌}
use mathlib.Core.List.{List, [], ◌∷◌}
use Prim.Native.Nat.{ℕ}
use Rattle.intake.specs.Memory.{Memory}
use Rattle.intake.specs.Sound.{Sound}
use Rattle.run.specs.Received.{Received, receive_each}
use Rattle.run.specs.Holds.{Holds}
use Rattle.run.specs.Call.{Call, deliver, deliver_packet, ask, deliveries_of}
use Rattle.run.specs.Run.{after_call, receive_call, after_calls, receive_calls, run_memory, run_received}
use Rattle.run.specs.Demand.{SameReceived}
use Rattle.intake.proofs.RulesPassed.{Accepted}
use Rattle.run.proofs.HoldsKept.{holds_start, holds_deliver, holds_each, holds_sound}
use Rattle.run.proofs.PacketCalls.{packet_memory}
use Rattle.run.proofs.Determined.{holds_alike}

module _ (len : ℕ) (before : Memory) (passed : Accepted len before.image before.map) where
  holds_call : {m : Memory} {r : Received} (call : Call) → Holds len before r m → Holds len before (receive_call len call r) (after_call len call m)
  unfolding receive_each
  holds_call (deliver d) h = holds_deliver d passed h
  holds_call {m} (deliver_packet p) h = rw (packet_memory len m (holds_sound passed h) p) (holds_each (deliveries_of (deliver_packet p)) passed h)
  holds_call (ask q) h = h

  holds_calls : {m : Memory} {r : Received} (calls : List Call) → Holds len before r m → Holds len before (receive_calls len calls r) (after_calls len calls m)
  unfolding after_calls receive_calls
  holds_calls [] h = h
  holds_calls {m = m} (call ∷ calls) h = holds_calls {m = after_call len call m} calls (holds_call call h)

  pub run_holds : (calls : List Call) → Holds len before (run_received len calls) (run_memory len before calls)
  run_holds calls = holds_calls calls (holds_start len before passed)

  pub run_sound : (calls : List Call) → Sound len (run_memory len before calls)
  run_sound calls = holds_sound passed (run_holds calls)

  pub run_alike : (calls others : List Call) → SameReceived len (run_received len calls) (run_received len others)
      → run_memory len before calls ≡ run_memory len before others
  run_alike calls others same = holds_alike same (run_holds calls) (run_holds others) passed.allowed
