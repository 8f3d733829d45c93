-- Rule 9.16: packets near their edges, in any state that passes refusals 1 to 4.
use Rattle.std.specs.Prelude.{◌≡◌, true, false, cond, [], ◌∷◌, ◌++◌, ℕ, ◌*◌, ◌<◌, length, get_or}
use Rattle.lists.specs.Alias.{Bytes, Words}
use Rattle.lists.specs.Member.{is_member}
use Rattle.format.specs.Size.{block_size}
use Rattle.refusal.specs.Answer.{given, refused}
use Rattle.refusal.specs.Fault.{fault}
use Rattle.bitmap.specs.Words.{block_count}
use Rattle.bitmap.specs.Bit.{bit}
use Rattle.bitmap.specs.Count.{held_count}
use Rattle.intake.specs.Memory.{Memory}
use Rattle.intake.specs.Check.{check_call}
use Rattle.intake.specs.Equal.{equal}
use Rattle.intake.specs.Deliver.{delivery}
use Rattle.intake.specs.Packet.{result_of, packet_outcome, packet}

pub record PacketEdges (len : ℕ) (m : Memory) : Type 0 where
  -- no number and no byte: the held count, whatever the list
  pub empty : (list : Words) → packet len m [] [] list ≡ packet_outcome (given (held_count len m.map)) m list
  -- bytes and no number
  pub only_bytes : (byte : ℕ) (bytes : Bytes) (list : Words) → packet len m [] (byte ∷ bytes) list ≡ packet_outcome (refused (fault 6 0)) m list
  -- 6 comes before 17, whatever the list
  pub wrong_size : (blocks : Words) (pieces : Bytes) (list : Words) → (length pieces ≡ length blocks * block_size → ⊥)
      → packet len m blocks pieces list ≡ packet_outcome (refused (fault 6 0)) m list
  pub short_list : (blocks : Words) (pieces : Bytes) (list : Words) → length pieces ≡ length blocks * block_size → length list < length blocks
      → packet len m blocks pieces list ≡ packet_outcome (refused (fault 17 (length blocks))) m list
  -- one block is its delivery, and a longer list keeps its rest
  pub one : (block : ℕ) (piece : Bytes) (first : ℕ) (rest : Words) → length piece ≡ block_size
      → packet len m (block ∷ []) piece (first ∷ rest)
      ≡ packet_outcome (given (held_count len (delivery len m block piece).memory.map)) (delivery len m block piece).memory
      (result_of (delivery len m block piece).answer ∷ rest)
  -- a number that is not held, twice: New, then Same or 7 by the bytes
  pub twice : (block : ℕ) (piece other : Bytes) (first second : ℕ) (rest : Words) → block < block_count len → bit m.map block ≡ false
      → length piece ≡ block_size → length other ≡ block_size
      → (packet len m (block ∷ block ∷ []) (piece ++ other) (first ∷ second ∷ rest)).results ≡ 0 ∷ cond (equal piece other) 64 7 ∷ rest
  -- each result is one of four numbers
  pub numbers : (blocks : Words) (pieces : Bytes) (list : Words) {held : ℕ} → (packet len m blocks pieces list).answer ≡ given held
      → (i : ℕ) → i < length blocks → is_member (get_or (packet len m blocks pieces list).results i 0) (0 ∷ 64 ∷ 5 ∷ 7 ∷ []) ≡ true

abbrev pub EveryPacket : Type 0
EveryPacket = (len : ℕ) (m : Memory) → check_call {A = Unit} len m (given tt) ≡ given tt → PacketEdges len m
