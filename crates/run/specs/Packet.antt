-- Rules 8.16 and 8.17: a packet in a run. Each of its blocks is one delivery, and a packet that is refused brings none.
use Rattle.std.specs.Prelude.{◌≡◌, List, [], ◌∷◌, ◌++◌, map, ℕ}
use Rattle.lists.specs.Write.{written}
use Rattle.refusal.specs.Answer.{given, fault_in}
use Rattle.bitmap.specs.Count.{held_count}
use Rattle.intake.specs.Memory.{Memory}
use Rattle.intake.specs.Deliver.{Delivery}
use Rattle.intake.specs.Packet.{deliveries_in, results_of_each, packet}
use Rattle.run.specs.Call.{Packet, Call, deliver, deliver_packet, deliveries_of, reply}
use Rattle.run.specs.Run.{run_memory, run_received}
use Rattle.run.specs.Refusal.{fault_in_reply}

-- deliveries, each a call of its own
abbrev pub one_by_one : List Delivery → List Call
one_by_one deliveries = map deliver deliveries

-- a packet as the next call of a run
pub record TakesPacket (len : ℕ) (before : Memory) (calls : List Call) (p : Packet) : Type 0 where
  -- it goes by what the call before left in both buffers
  pub taken : run_memory len before (calls ++ (deliver_packet p ∷ [])) ≡ (packet len (run_memory len before calls) p.blocks p.pieces p.results).memory
  -- it leaves what its deliveries leave one by one
  pub memory : run_memory len before (calls ++ (deliver_packet p ∷ [])) ≡ run_memory len before (calls ++ one_by_one (deliveries_of (deliver_packet p)))
  pub received : run_received len (calls ++ (deliver_packet p ∷ [])) ≡ run_received len (calls ++ one_by_one (deliveries_of (deliver_packet p)))
  -- its results are the numbers of their answers, written to the front of its list
  pub results : (packet len (run_memory len before calls) p.blocks p.pieces p.results).results
      ≡ written p.results (results_of_each len (run_memory len before calls) (deliveries_of (deliver_packet p)))
  -- what it answers is the held count behind it
  pub count : {n : ℕ} → (packet len (run_memory len before calls) p.blocks p.pieces p.results).answer ≡ given n
      → n ≡ held_count len (run_memory len before (calls ++ (deliver_packet p ∷ []))).map
  -- and its arguments alone can refuse it
  pub refusal : fault_in_reply (reply len (run_memory len before calls) (deliver_packet p)) ≡ fault_in (deliveries_in p.blocks p.pieces p.results)
