-- Bytes past L and words past those in use (specs/InUse, rule 1.10), on all inputs.
--     bit_agree, block_agree, call_agree     two memories that differ in such places alone have the same bits, blocks and faults 1 to 4
--     unread           no such byte or word changes the answer to a delivery
--     unwritten        no delivery writes one
--     open_unwritten   nor does an opening, which looks at lengths alone
-- Rests on the verdict (proofs/Verdict), the bytes of a block (proofs/BlockBytes), an opening (proofs/OpenClears) and the map's words and count (bitmap: BitSet, HeldCount).
use mathlib.Core.Path.{◌≡◌, refl, sym, ap, ◌∙◌}
use mathlib.Core.List.{List}
use Prim.Native.Nat.{ℕ, ◌+◌, ◌-◌, ◌*◌, ◌/◌, ◌<◌}
use native.Mathlib.Omega.{arith}
use lib.ListN.{drop}
use lib.Dec.{leb}
use borrow.Author.Tests.{leb-false}
use Rattle.lists.proofs.Any.{any_agree}
use Rattle.lists.proofs.Choice.{cond_agree}
use Rattle.lists.proofs.EqualParts.{same_front}
use Rattle.format.specs.Size.{block_size}
use Rattle.refusal.specs.Answer.{Answer, given, refused}
use Rattle.bitmap.specs.Words.{block_count, word_count}
use Rattle.bitmap.specs.Bit.{bit}
use Rattle.bitmap.specs.Spare.{spare_bit}
use Rattle.bitmap.specs.Count.{held_count}
use Rattle.bitmap.proofs.BitSet.{words_past}
use Rattle.bitmap.proofs.HeldCount.{held_set}
use Rattle.intake.specs.Check.{check_lengths, check_call}
use Rattle.intake.specs.Memory.{Memory, block_at}
use Rattle.intake.specs.Open.{OpenedFile, open_map, open_answer, opening}
use Rattle.intake.specs.Deliver.{Verdict, new, same, taken, verdict, after_verdict, with_count, stored, delivery}
use Rattle.intake.specs.InUse.{SameInUse, SamePast}
use Rattle.intake.proofs.RulesPassed.{sound_accepted}
use Rattle.intake.proofs.OpenClears.{past_cleared}
use Rattle.intake.proofs.BlockBytes.{same_block, bytes_past}
use Rattle.intake.proofs.Verdict.{Passed, block_inside, passed, new_absent}

one_more : (len : ℕ) (m : Memory) (block : ℕ) (piece : List ℕ) → verdict len m block piece ≡ given new
    → held_count len (stored m block piece).map ≡ held_count len m.map + 1
unfolding stored
one_more len m block piece e =
    let p = passed len m block piece e in
    held_set len m.map block p.inside (sound_accepted len m p.sound).map_long (new_absent len m block piece e)

module _ {len : ℕ} {m n : Memory} (a : SameInUse len m n) where
  pub bit_agree : (b : ℕ) → b / 64 < word_count len → bit m.map b ≡ bit n.map b
  unfolding bit
  bit_agree b h = rw (same_front 0 m.map n.map (word_count len) (b / 64) a.words h)

  pub block_agree : (block : ℕ) → block < block_count len → block_at m.image block ≡ block_at n.image block
  block_agree block h =
      same_block m.image n.image block a.image_length (λ j l. same_front 0 m.image n.image len (block * block_size + j) a.bytes (omega arith))

  pub count_agree : held_count len m.map ≡ held_count len n.map
  unfolding held_count
  count_agree = rw a.words

  spare_agree : spare_bit len m.map ≡ spare_bit len n.map
  unfolding spare_bit
  spare_agree = any_agree (bit m.map) (bit n.map) (64 * word_count len - block_count len) (block_count len) (λ b l g. bit_agree b (omega arith))

  pub call_agree : {A : Type 0} {rest other : Answer A} → rest ≡ other → check_call len m rest ≡ check_call len n other
  unfolding check_call check_lengths
  call_agree e = rw (a.image_length, a.map_length, spare_agree, e)

  module _ (block : ℕ) (piece : List ℕ) where
    pub verdict_agree : verdict len m block piece ≡ verdict len n block piece
    unfolding verdict
    verdict_agree =
        call_agree
        (cond_agree (leb (block_count len) block) (λ t. refl) (λ t.
        let inside = leb-false (block_count len) block t in
        rw (bit_agree block (omega arith), block_agree block inside)))

    pub unread : (delivery len m block piece).answer ≡ (delivery len n block piece).answer
    unfolding delivery
    unread = rw verdict_agree (by (verdict len n block piece) refl)
      where
        by : (v : Answer Verdict) → verdict len n block piece ≡ v
            → with_count len (after_verdict m block piece v).map v ≡ with_count len (after_verdict n block piece v).map v
        by (refused f) e = refl
        by (given same) e = ap (λ (k : ℕ). given (taken same k)) count_agree
        by (given new) e =
            ap (λ (k : ℕ). given (taken new k))
            (one_more len m block piece (verdict_agree ∙ e) ∙ ap (λ (k : ℕ). k + 1) count_agree ∙ sym (one_more len n block piece e))

stored_past : (len : ℕ) (m : Memory) (block : ℕ) (piece : List ℕ) → Passed len m block piece → SamePast len (stored m block piece) m
unfolding stored
stored_past len m block piece p =
    let inside = p.inside in
    record {
      bytes = bytes_past m.image block piece p.sized (block_inside len m block p.sound inside) len (omega arith);
      words = words_past m.map block (word_count len) (omega arith);
    }

pub unwritten : (len : ℕ) (m : Memory) (block : ℕ) (piece : List ℕ) → SamePast len (delivery len m block piece).memory m
unfolding delivery
unwritten len m block piece = by (verdict len m block piece) refl
  where
    by : (v : Answer Verdict) → verdict len m block piece ≡ v → SamePast len (after_verdict m block piece v) m
    by (refused f) e = record { bytes = refl; words = refl }
    by (given same) e = record { bytes = refl; words = refl }
    by (given new) e = stored_past len m block piece (passed len m block piece e)

pub open_unwritten : (len : ℕ) (image map : List ℕ) → drop (word_count len) (opening len image map).map ≡ drop (word_count len) map
unfolding opening
open_unwritten len image map = by (open_answer len image map)
  where
    by : (o : Answer OpenedFile) → drop (word_count len) (open_map len map o) ≡ drop (word_count len) map
    by (refused f) = refl
    by (given file) = past_cleared len map
