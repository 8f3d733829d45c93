-- Definitions that only the contracts of private functions and the proofs cite.
use Rattle.std.specs.Prelude.{◌≡◌, true, false, ℕ, ◌+◌, ◌<◌, ◌≤◌, Result}
use Rattle.lists.specs.Alias.{Bytes, Words}
use Rattle.refusal.specs.Answer.{Answer, given, refused, answer_as}
use Rattle.refusal.specs.declared.Refusal.{Refusal}
use Rattle.bitmap.specs.Bit.{bit}
use Rattle.intake.specs.Memory.{Memory, memory}
use Rattle.intake.specs.Deliver.{Verdict, new, same, Judgement, judgement}
use Rattle.intake.specs.Packet.{verdict_number}
use Rattle.intake.specs.declared.Judged.{Judged}
use Rattle.intake.specs.declared.Judged.TheVariants.{New, Same}

-- the verdict for each case of the code's enum
abbrev pub verdict_of : Judged → Verdict
verdict_of New = new
verdict_of Same = same

abbrev pub judged_of : Result Judged Refusal → Answer Verdict
judged_of r = answer_as verdict_of r

abbrev pub judgement_of : (r : Result Judged Refusal) (image : Bytes) (map : Words) → Judgement
judgement_of r image map = judgement (judged_of r) (memory image map)

-- a block's result in a packet, from its verdict
abbrev pub result_of_verdict : Answer Verdict → ℕ
result_of_verdict (given v) = verdict_number v
result_of_verdict (refused f) = f.number

-- so many bits from a block's on are ones, and where it is none, the block's is zero
pub record HeldRun (map : Words) (block count : ℕ) : Type 0 where
  pub few : count ≤ 64
  pub ones : (b : ℕ) → block ≤ b → b < block + count → bit map b ≡ true
  pub stop : count ≡ 0 → bit map block ≡ false
