-- What a delivery leaves, by its answer (specs/Added). Rules 1.13 to 1.16.
--     new_added                       New adds the block, and carries the held count afterwards
--     same_nothing, refused_nothing   Same and refusals change nothing; Same carries the held count
-- Rests on the map's bits and count (bitmap: BitSet, HeldCount), the image (proofs/BlockBytes) and the verdict (proofs/Verdict).
use mathlib.Core.Path.{◌≡◌, refl}
use mathlib.Core.Bool.{false}
use mathlib.Core.List.{List}
use Prim.Native.Nat.{ℕ, ◌/◌, ◌<◌}
use native.Mathlib.Omega.{arith}
use lib.ListN.{length}
use Rattle.lists.proofs.Choice.{never}
use Rattle.refusal.specs.declared.Fault.{Fault}
use Rattle.refusal.specs.Answer.{Answer, given, refused}
use Rattle.bitmap.specs.Bit.{bit}
use Rattle.bitmap.specs.Count.{held_count}
use Rattle.bitmap.proofs.BitSet.{bit_set, bit_other, map_length}
use Rattle.bitmap.proofs.HeldCount.{held_set}
use Rattle.intake.specs.Memory.{Memory}
use Rattle.intake.specs.Deliver.{Verdict, new, same, taken, verdict, after_verdict, with_count, stored, delivery}
use Rattle.intake.specs.Added.{Added}
use Rattle.intake.proofs.RulesPassed.{sound_accepted}
use Rattle.intake.proofs.BlockBytes.{block_put, byte_outside, image_length}
use Rattle.intake.proofs.Verdict.{Passed, block_inside, passed, new_absent}

module _ (len : ℕ) (m : Memory) (block : ℕ) (piece : List ℕ) where
  pub stored_added : Passed len m block piece → bit m.map block ≡ false → Added len m block piece (stored m block piece)
  unfolding stored
  stored_added p absent =
      let long = (sound_accepted len m p.sound).map_long in
      let room = block_inside len m block p.sound p.inside in
      let inside = p.inside in
      let word : block / 64 < length m.map = omega arith in
      record {
        bit_set = bit_set m.map block word;
        other_bits = bit_other m.map block;
        one_more = held_set len m.map block inside long absent;
        bytes = block_put m.image block piece p.sized room;
        other_bytes = byte_outside m.image block piece p.sized room;
        image_length = image_length m.image block piece p.sized room;
        map_length = map_length m.map block;
      }

  pub new_added : {n : ℕ} → (delivery len m block piece).answer ≡ given (taken new n)
      → Added len m block piece (delivery len m block piece).memory × (n ≡ held_count len (delivery len m block piece).memory.map)
  unfolding delivery
  new_added {n} e = by (verdict len m block piece) refl e
    where
      by : (v : Answer Verdict) → verdict len m block piece ≡ v → with_count len (after_verdict m block piece v).map v ≡ given (taken new n)
          → Added len m block piece (after_verdict m block piece v) × (n ≡ held_count len (after_verdict m block piece v).map)
      by (given new) f q = (stored_added (passed len m block piece f) (new_absent len m block piece f), cc)
      by (given same) f q = never (cc)
      by (refused r) f q = never (cc)

  pub same_nothing : {n : ℕ} → (delivery len m block piece).answer ≡ given (taken same n)
      → ((delivery len m block piece).memory ≡ m) × (n ≡ held_count len m.map)
  unfolding delivery
  same_nothing {n} e = by (verdict len m block piece) e
    where
      by : (v : Answer Verdict) → with_count len (after_verdict m block piece v).map v ≡ given (taken same n)
          → (after_verdict m block piece v ≡ m) × (n ≡ held_count len m.map)
      by (given new) q = never (cc)
      by (given same) q = (refl, cc)
      by (refused r) q = never (cc)

  pub refused_nothing : {f : Fault} → (delivery len m block piece).answer ≡ refused f → (delivery len m block piece).memory ≡ m
  unfolding delivery
  refused_nothing {f} e = by (verdict len m block piece) e
    where
      by : (v : Answer Verdict) → with_count len (after_verdict m block piece v).map v ≡ refused f → after_verdict m block piece v ≡ m
      by (given new) q = never (cc)
      by (given same) q = refl
      by (refused r) q = refl
