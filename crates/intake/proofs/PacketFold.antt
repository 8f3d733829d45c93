-- A packet, block by block (specs/Packet). Rules 1.19 to 1.22 and 2.31.
--     sound_kept                       refusals 1 to 4 apply after a delivery only where they did before
--     Turn, turn_first, turn_next, turn_last   the loop of `take_blocks`: what is left of the packet leaves what all of it does
--     sizes_passed                     what is known where 6 and 17 do not apply
--     packet_settled                   past refusals 1 to 4, the deliveries or 6 and 17 settle a packet
--     refused_packet, taken_packet     the whole packet, from what the calls of `deliver_packet` give
-- Rests on refusals 1 to 4 (proofs/RulesPassed), the verdict (proofs/Verdict) and what New adds (proofs/NewAdds).
use mathlib.Core.Path.{◌≡◌, refl, sym, ap, ◌∙◌}
use mathlib.Core.List.{List, [], ◌∷◌, ◌++◌}
use Prim.Native.Nat.{ℕ, ◌+◌, ◌*◌, ◌<◌, ◌≤◌}
use native.Mathlib.Omega.{arith}
use native.Mathlib.Numerals.{add-one}
use lib.ListN.{length, set, length-append, drop_of_length-le}
use lib.Seq.{sets, take_at, drop_at}
use lib.Dec.{eqb, ltb}
use borrow.Author.Tests.{ltb-false, not-false, eqb-true}
use Rattle.lists.proofs.Choice.{on}
use Rattle.lists.specs.Write.{written}
use Rattle.format.specs.Size.{block_size}
use Rattle.refusal.specs.declared.Fault.{Fault}
use Rattle.refusal.specs.Answer.{Answer, given, refused, and_then}
use Rattle.bitmap.specs.Words.{block_count}
use Rattle.bitmap.specs.Count.{held_count}
use Rattle.bitmap.proofs.SpareBits.{spare_clear, clear_spare}
use Rattle.intake.specs.Memory.{Memory}
use Rattle.intake.specs.Check.{check_call}
use Rattle.intake.specs.Deliver.{Verdict, new, same, verdict, after_verdict, with_count, Judgement, judged, delivery}
use Rattle.intake.specs.Packet.{paired, check_sizes, deliveries_in, after_each, result_of, results_of_each, packet_outcome, settled_packet, packet}
use Rattle.intake.specs.Added.{Added}
use Rattle.intake.specs.Sound.{Sound}
use Rattle.intake.specs.Private.{result_of_verdict}
use Rattle.intake.proofs.RulesPassed.{rule_passed, sound, sound_accepted, sound_spare, call_given, call_refused, call_passes}
use Rattle.intake.proofs.Verdict.{passed, new_absent}
use Rattle.intake.proofs.NewAdds.{stored_added}

-- both buffers keep their lengths and stay sound
pub record Kept (len : ℕ) (m after : Memory) : Type 0 where
  pub sound : Sound len after
  pub image_length : length after.image ≡ length m.image
  pub map_length : length after.map ≡ length m.map

module _ (len : ℕ) (m : Memory) (block : ℕ) (piece : List ℕ) (passes : Sound len m) where
  added_kept : {after : Memory} → block < block_count len → Added len m block piece after → Kept len m after
  added_kept {after} inside a =
      let before = sound_accepted len m passes in
      record {
        sound = sound len after
            (record { allowed = before.allowed; image_long = rw a.image_length before.image_long; map_long = rw a.map_length before.map_long })
            (spare_clear len after.map (λ b l g. a.other_bits b (λ e. omega arith) ∙ clear_spare len m.map (sound_spare len m passes) b l g));
        image_length = a.image_length;
        map_length = a.map_length;
      }

  pub sound_kept : Kept len m (delivery len m block piece).memory
  unfolding delivery
  sound_kept = by (verdict len m block piece) refl
    where
      unchanged : Kept len m m
      unchanged = record { sound = passes; image_length = refl; map_length = refl }

      by : (v : Answer Verdict) → verdict len m block piece ≡ v → Kept len m (after_verdict m block piece v)
      by (refused f) e = unchanged
      by (given same) e = unchanged
      by (given new) e =
          let p = passed len m block piece e in
          added_kept p.inside (stored_added len m block piece p (new_absent len m block piece e))

-- the answer's number is that of the verdict
result_number : (len : ℕ) (map : List ℕ) (v : Answer Verdict) → result_of_verdict v ≡ result_of (with_count len map v)
result_number len map (given v) = refl
result_number len map (refused f) = refl

module _ (len : ℕ) (start : Memory) (blocks pieces list : List ℕ) where
  -- i deliveries are made, and these numbers and these bytes are left
  pub record Turn (m : Memory) (now : List ℕ) (i : ℕ) (numbers bytes : List ℕ) : Type 0 where
    pub sound : Sound len m
    pub sized : length bytes ≡ length numbers * block_size
    pub room : i + length numbers ≤ length list
    pub memory : after_each len m (paired numbers bytes) ≡ after_each len start (paired blocks pieces)
    pub results : sets now i (results_of_each len m (paired numbers bytes)) ≡ written list (results_of_each len start (paired blocks pieces))

  pub turn_first : Sound len start → length pieces ≡ length blocks * block_size → length blocks ≤ length list → Turn start list 0 blocks pieces
  turn_first passes sized room =
      record {
        sound = passes;
        sized = sized;
        room = omega arith;
        memory = refl;
        results = refl;
      }

  module _ {m : Memory} {results : List ℕ} {i : ℕ} where
    module _ (block : ℕ) (piece numbers bytes : List ℕ) (turn : Turn m results i (block ∷ numbers) (piece ++ bytes)) (whole : length piece ≡ block_size) where
      left_step : paired (block ∷ numbers) (piece ++ bytes) ≡ record { block = block; piece = piece } ∷ paired numbers bytes
      unfolding paired
      left_step = rw (take_at piece bytes block_size whole, drop_at piece bytes block_size whole)

      abbrev after : Memory
      after = (delivery len m block piece).memory

      after_step : after_each len after (paired numbers bytes) ≡ after_each len m (paired (block ∷ numbers) (piece ++ bytes))
      unfolding after_each
      after_step = rw left_step

      results_step : sets (set results i (result_of (delivery len m block piece).answer)) (i + 1) (results_of_each len after (paired numbers bytes))
          ≡ sets results i (results_of_each len m (paired (block ∷ numbers) (piece ++ bytes)))
      unfolding results_of_each
      results_step = rw (left_step, add-one)

      next : Turn after (set results i (result_of (delivery len m block piece).answer)) (i + 1) numbers bytes
      next =
          record {
            sound = (sound_kept len m block piece turn.sound).sound;
            sized = omega (arith, turn.sized, length-append piece bytes, whole);
            room = omega (arith, turn.room);
            memory = after_step ∙ turn.memory;
            results = results_step ∙ turn.results;
          }

      same_result : result_of_verdict (verdict len m block piece) ≡ result_of (delivery len m block piece).answer
      unfolding delivery
      same_result = result_number len after.map (verdict len m block piece)

      next_judged : {j : Judgement} {result : ℕ} → j ≡ judged len m block piece → result ≡ result_of_verdict j.verdict
          → Turn j.memory (set results i result) (i + 1) numbers bytes
      unfolding delivery
      next_judged {j} {result} e n = rw (n, e, same_result) next

    module _ {numbers bytes : List ℕ} (turn : Turn m results i numbers bytes) where
      -- a number and its piece come off the front
      pub turn_next : {block : ℕ} {later more : List ℕ} {k n : ℕ} (piece : List ℕ) → numbers ≡ block ∷ later → bytes ≡ piece ++ more → length piece ≡ block_size
          → k ≡ i → n ≡ i + 1 → {j : Judgement} {result : ℕ} → j ≡ judged len m block piece → result ≡ result_of_verdict j.verdict
          → Turn j.memory (set results k result) n later more
      turn_next {block = block} {later = later} {more = more} piece e f whole k n v r =
          rw (k, n) (next_judged block piece later more (rw (e, f) at turn) whole v r)

      pub turn_last : length numbers ≡ 0
          → (m ≡ after_each len start (paired blocks pieces)) × (results ≡ written list (results_of_each len start (paired blocks pieces)))
      unfolding after_each results_of_each paired
      turn_last e =
          let none : numbers ≡ [] = drop_of_length-le numbers {i = 0} (omega (arith, e)) in
          (rw none at turn.memory, rw none at turn.results)

-- the whole packet
module _ (len : ℕ) (m : Memory) (blocks pieces list : List ℕ) where
  pub record Sizes : Type 0 where
    pub sound : Sound len m
    pub sized : length pieces ≡ length blocks * block_size
    pub room : length blocks ≤ length list

  pub sizes_passed : check_call {A = Unit} len m (check_sizes blocks pieces list (given tt)) ≡ given tt → Sizes
  unfolding check_sizes
  sizes_passed e =
      let four = call_given len m e in
      let six = rule_passed _ _ _ four.1 in
      record {
        sound = four.0;
        sized = eqb-true (length pieces) (length blocks * block_size) (not-false _ six.0);
        room = ltb-false (length list) (length blocks) (rule_passed _ _ _ six.1).0;
      }

  sizes_then : {A : Type 0} (rest : Answer A) → check_sizes blocks pieces list rest ≡ and_then (check_sizes {A = Unit} blocks pieces list (given tt)) (λ (u : Unit). rest)
  unfolding check_sizes
  sizes_then rest =
      on (eqb (length pieces) (length blocks * block_size)) (λ s. on (ltb (length list) (length blocks)) (λ l. rw (s, l)) (λ l. rw (s, l))) (λ s. rw s)

  check_then : {A : Type 0} (rest : Answer A)
      → check_call len m (check_sizes blocks pieces list rest) ≡ and_then (check_call {A = Unit} len m (check_sizes blocks pieces list (given tt))) (λ (u : Unit). rest)
  check_then {A} rest = by (check_call {A = Unit} len m (given tt)) refl
    where
      then : Answer Unit → Answer A
      then a = and_then a (λ (u : Unit). rest)

      by : (first : Answer Unit) → check_call {A = Unit} len m (given tt) ≡ first
          → check_call len m (check_sizes blocks pieces list rest) ≡ then (check_call {A = Unit} len m (check_sizes blocks pieces list (given tt)))
      by (refused f) e = call_refused len m e _ ∙ sym (ap then (call_refused len m e _))
      by (given tt) e = call_passes len m e _ ∙ sizes_then rest ∙ sym (ap then (call_passes len m e _))

  -- past refusals 1 to 4
  pub packet_settled : Sound len m → packet len m blocks pieces list ≡ settled_packet len m list (deliveries_in blocks pieces list)
  unfolding packet
  packet_settled passes = ap (settled_packet len m list) (call_passes len m passes (deliveries_in blocks pieces list))

  pub refused_packet : {f : Fault} → refused f ≡ check_call {A = Unit} len m (check_sizes blocks pieces list (given tt))
      → packet_outcome (refused f) m list ≡ packet len m blocks pieces list
  unfolding packet
  refused_packet e = rw (check_then (given (paired blocks pieces)), ← e)

  pub taken_packet : {after : Memory} {results : List ℕ} {count : ℕ} → check_call {A = Unit} len m (check_sizes blocks pieces list (given tt)) ≡ given tt
      → after ≡ after_each len m (paired blocks pieces) → results ≡ written list (results_of_each len m (paired blocks pieces))
      → count ≡ held_count len after.map → packet_outcome (given count) after results ≡ packet len m blocks pieces list
  unfolding packet
  taken_packet e a r n = rw (check_then (given (paired blocks pieces)), e, n, a, r)
