-- Rules 1.19 to 1.22: a packet of blocks in one call is a fold of the single delivery (specs/Deliver). Rule 2.31: its refusals.
use Rattle.std.specs.Prelude.{not, List, [], ◌∷◌, ℕ, ◌*◌, length, take, drop, eqb, ltb, Result}
use Rattle.lists.specs.Alias.{Bytes, Words}
use Rattle.lists.specs.Write.{written}
use Rattle.format.specs.Size.{block_size}
use Rattle.refusal.specs.Answer.{Answer, given, refused, refuse_if, answer_of}
use Rattle.refusal.specs.Fault.{fault}
use Rattle.refusal.specs.declared.Refusal.{Refusal}
use Rattle.bitmap.specs.Count.{held_count}
use Rattle.intake.specs.Memory.{Memory, memory}
use Rattle.intake.specs.Check.{check_call}
use Rattle.intake.specs.Deliver.{Delivery, Verdict, new, same, Taken, taken, delivery}

-- Rule 1.19: piece i is the 512 bytes from 512 i on
unfoldable pub paired : (blocks : Words) (pieces : Bytes) → List Delivery
paired [] pieces = []
paired (block ∷ blocks) pieces = record { block = block; piece = take block_size pieces } ∷ paired blocks (drop block_size pieces)

-- Rule 2.31: 6 and 17; `rest` is what answers where neither does
unfoldable pub check_sizes : {A : Type 0} (blocks : Words) (pieces : Bytes) (results : Words) (rest : Answer A) → Answer A
check_sizes blocks pieces results rest =
    refuse_if (not (eqb (length pieces) (length blocks * block_size))) (fault 6 0)
    (refuse_if (ltb (length results) (length blocks)) (fault 17 (length blocks))
    rest)

-- the deliveries of a packet, from its arguments alone, or what refuses it whole
abbrev pub deliveries_in : (blocks : Words) (pieces : Bytes) (results : Words) → Answer (List Delivery)
deliveries_in blocks pieces results = check_sizes blocks pieces results (given (paired blocks pieces))

-- Rule 1.20: both buffers after deliveries one after the other
unfoldable pub after_each : (len : ℕ) (m : Memory) (deliveries : List Delivery) → Memory
after_each len m [] = m
after_each len m (d ∷ rest) = after_each len (delivery len m d.block d.piece).memory rest

-- Rule 1.21: the number that stands for the answer to a delivery in a packet's results
abbrev pub verdict_number : Verdict → ℕ
verdict_number new = 0
verdict_number same = 64

abbrev pub result_of : Answer Taken → ℕ
result_of (given (taken v count)) = verdict_number v
result_of (refused f) = f.number

unfoldable pub results_of_each : (len : ℕ) (m : Memory) (deliveries : List Delivery) → List ℕ
results_of_each len m [] = []
results_of_each len m (d ∷ rest) =
    result_of (delivery len m d.block d.piece).answer ∷ results_of_each len (delivery len m d.block d.piece).memory rest

-- the held count, and every borrowed buffer afterwards
pub record PacketOutcome : Type 0 where
  pub answer : Answer ℕ
  pub memory : Memory
  pub results : Words

abbrev pub packet_outcome : Answer ℕ → Memory → Words → PacketOutcome
packet_outcome answer m results = record { answer = answer; memory = m; results = results }

-- the answer that the code's result stands for, and every borrowed buffer
abbrev pub packet_outcome_of : (r : Result ℕ Refusal) (image : Bytes) (map results : Words) → PacketOutcome
packet_outcome_of r image map results = packet_outcome (answer_of r) (memory image map) results

-- Rules 1.20 to 1.22: the deliveries are made one after the other, and the held blocks are counted behind the last.
-- Rule 2.22: a refused packet changes nothing.
abbrev pub settled_packet : (len : ℕ) (m : Memory) (results : Words) (deliveries : Answer (List Delivery)) → PacketOutcome
settled_packet len m results (given all) =
    packet_outcome (given (held_count len (after_each len m all).map)) (after_each len m all) (written results (results_of_each len m all))
settled_packet len m results (refused f) = packet_outcome (refused f) m results

-- Rule 2.31: 1 to 4, then 6 and 17
unfoldable pub packet : (len : ℕ) (m : Memory) (blocks : Words) (pieces : Bytes) (results : Words) → PacketOutcome
packet len m blocks pieces results = settled_packet len m results (check_call len m (deliveries_in blocks pieces results))
