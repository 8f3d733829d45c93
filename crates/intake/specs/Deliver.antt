-- Rules 1.12 to 1.16: delivery. The verdict comes first, with what it does to image and map, then the held count.
use Rattle.std.specs.Prelude.{cond, not, ℕ, length, eqb, leb, Result}
use Rattle.lists.specs.Alias.{Bytes, Words}
use Rattle.format.specs.Size.{block_size}
use Rattle.refusal.specs.Answer.{Answer, given, refused, refuse_if, and_then, answer_as}
use Rattle.refusal.specs.Fault.{fault}
use Rattle.refusal.specs.declared.Refusal.{Refusal}
use Rattle.bitmap.specs.Words.{block_count}
use Rattle.bitmap.specs.Bit.{bit, with_bit}
use Rattle.bitmap.specs.Count.{held_count}
use Rattle.intake.specs.Memory.{Memory, memory, block_at, with_block}
use Rattle.intake.specs.Check.{check_call}
use Rattle.intake.specs.Equal.{equal}
use Rattle.intake.specs.declared.Delivered.{Delivered}
use Rattle.intake.specs.declared.Delivered.TheVariants.{New, Same}

-- what a delivery is given besides the record and both buffers
pub record Delivery : Type 0 where
  pub block : ℕ
  pub piece : Bytes

-- a block that is not held, and one that is held with the piece's bytes
pub data Verdict : Type 0 where
  new : Verdict
  same : Verdict

-- Rule 2.27: 1 to 4, then 5, 6 and 7
unfoldable pub verdict : (len : ℕ) (m : Memory) (block : ℕ) (piece : Bytes) → Answer Verdict
verdict len m block piece =
    check_call len m
    (refuse_if (leb (block_count len) block) (fault 5 0)
    (refuse_if (not (eqb (length piece) block_size)) (fault 6 0)
    (cond (not (bit m.map block)) (given new)
    (refuse_if (not (equal (block_at m.image block) piece)) (fault 7 0)
    (given same)))))

-- Rule 1.13: the piece in its place, and its bit set
unfoldable pub stored : (m : Memory) (block : ℕ) (piece : Bytes) → Memory
stored m block piece = memory (with_block m.image block piece) (with_bit m.map block)

-- what a verdict does to image and map: New stores, Same and a refusal change nothing (rules 1.14, 1.15 and 2.22)
abbrev pub after_verdict : (m : Memory) (block : ℕ) (piece : Bytes) (v : Answer Verdict) → Memory
after_verdict m block piece (given new) = stored m block piece
after_verdict m block piece (given same) = m
after_verdict m block piece (refused f) = m

-- the verdict on a delivery, and both buffers afterwards: nothing is counted yet
pub record Judgement : Type 0 where
  pub verdict : Answer Verdict
  pub memory : Memory

abbrev pub judgement : Answer Verdict → Memory → Judgement
judgement v m = record { verdict = v; memory = m }

-- what a verdict leaves
abbrev pub settled : (m : Memory) (block : ℕ) (piece : Bytes) (v : Answer Verdict) → Judgement
settled m block piece v = judgement v (after_verdict m block piece v)

abbrev pub judged : (len : ℕ) (m : Memory) (block : ℕ) (piece : Bytes) → Judgement
judged len m block piece = settled m block piece (verdict len m block piece)

-- Rule 1.16: a good answer carries the held count after the call
pub data Taken : Type 0 where
  taken : (v : Verdict) (count : ℕ) → Taken

abbrev pub with_count : (len : ℕ) (map : Words) (v : Answer Verdict) → Answer Taken
with_count len map v = and_then v (λ (x : Verdict). given (taken x (held_count len map)))

-- the good answer for each case of the code's enum
abbrev pub taken_of : Delivered → Taken
taken_of (New count) = taken new count
taken_of (Same count) = taken same count

-- the answer that the code's result stands for
abbrev pub delivered_of : Result Delivered Refusal → Answer Taken
delivered_of r = answer_as taken_of r

-- the answer, and both buffers afterwards
pub record Outcome : Type 0 where
  pub answer : Answer Taken
  pub memory : Memory

abbrev pub outcome : Answer Taken → Memory → Outcome
outcome answer m = record { answer = answer; memory = m }

abbrev pub outcome_of : (r : Result Delivered Refusal) (image : Bytes) (map : Words) → Outcome
outcome_of r image map = outcome (delivered_of r) (memory image map)

-- a delivery is a verdict and then a count
abbrev pub counted : (len : ℕ) (j : Judgement) → Outcome
counted len j = outcome (with_count len j.memory.map j.verdict) j.memory

unfoldable pub delivery : (len : ℕ) (m : Memory) (block : ℕ) (piece : Bytes) → Outcome
delivery len m block piece = counted len (judged len m block piece)
