-- Rule 8.14: one statement about whole runs.
-- A run opens a file of len bytes, with image and map as they were before, is not refused, and goes on with any list of calls.
use Rattle.std.specs.Prelude.{◌≡◌, true, List, [], ◌∷◌, ◌++◌, ℕ, ◌<◌}
use Rattle.lists.specs.Alias.{Bytes}
use Rattle.refusal.specs.Answer.{given}
use Rattle.bitmap.specs.Words.{block_count}
use Rattle.intake.specs.Memory.{Memory}
use Rattle.intake.specs.Open.{opened, opening}
use Rattle.intake.specs.Deliver.{Delivery, delivery}
use Rattle.run.specs.Received.{Received, receive, has}
use Rattle.run.specs.Holds.{Holds}
use Rattle.run.specs.Call.{Question, Packet, Call, deliver, ask, answer, reply}
use Rattle.run.specs.Run.{Opens, run_memory, run_received, EndAlike}
use Rattle.run.specs.File.{in_order, received_file, IsWhole, whole_file}
use Rattle.run.specs.Later.{Keeps}
use Rattle.run.specs.Packet.{TakesPacket}

-- Rule 8.9: the same blocks received, for each number below B
abbrev pub SameReceived : (len : ℕ) (r s : Received) → Type 0
SameReceived len r s = (b : ℕ) → b < block_count len → r b ≡ s b

pub record Demand (len : ℕ) (before : Memory) (calls : List Call) : Type 0 where
  -- Rule 1.11: the opening's record holds L, and it answers B
  pub opens : (opening len before.image before.map).answer ≡ given (opened len (block_count len))
  -- Rules 8.6 and 8.7
  pub holds : Holds len before (run_received len calls) (run_memory len before calls)
  -- Rules 8.1 and 8.4: a delivery goes by what the call before left in both buffers; the received blocks go by its number and its piece
  pub delivers : (d : Delivery)
      → (run_memory len before (calls ++ (deliver d ∷ [])) ≡ (delivery len (run_memory len before calls) d.block d.piece).memory)
      × (run_received len (calls ++ (deliver d ∷ [])) ≡ receive len d (run_received len calls))
  -- Rules 8.16 and 8.17: a packet is its deliveries one by one
  pub packets : (p : Packet) → TakesPacket len before calls p
  -- Rule 8.5: a question leaves image, map and received blocks
  pub asks : (q : Question)
      → (run_memory len before (calls ++ (ask q ∷ [])) ≡ run_memory len before calls) × (run_received len (calls ++ (ask q ∷ [])) ≡ run_received len calls)
  -- Rule 8.8
  pub answers : (q : Question) → answer len (run_memory len before calls) q ≡ answer len (received_file len (run_received len calls)) q
  -- Rule 8.9; deliveries and packets are answered alike, too, and a packet leaves the same results
  pub alike : (others : List Call) → SameReceived len (run_received len calls) (run_received len others)
      → EndAlike len (run_memory len before calls) (run_memory len before others)
  pub replies : (others : List Call) → SameReceived len (run_received len calls) (run_received len others)
      → (call : Call) → reply len (run_memory len before calls) call ≡ reply len (run_memory len before others) call
  -- Rules 8.10 to 8.12, at any later place of the run
  pub keeps : (later : List Call) → Keeps len (run_memory len before calls) (run_memory len before (calls ++ later))
  -- Rule 8.13
  pub ordered : ((b : ℕ) → b < block_count len → has (run_received len calls b) ≡ true)
      → IsWhole len (run_received len calls) (in_order (block_count len) (run_received len calls))
  pub whole : (file : Bytes) → IsWhole len (run_received len calls) file
      → (q : Question) → answer len (run_memory len before calls) q ≡ answer len (whole_file len file) q

abbrev pub EveryRun : Type 0
EveryRun = (len : ℕ) (before : Memory) → Opens len before → (calls : List Call) → Demand len before calls
