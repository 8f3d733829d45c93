-- Bytes past L and words past those in use (specs/InUse, rule 1.10) through the deliveries of a packet, on all inputs.
--     in_use_kept          memories that differ in such places alone do so after a delivery to both
--     packet_unread        no such byte or word changes the answer to a packet or its results
--     packet_unwritten     no packet writes one
-- Rests on the same for one delivery (proofs/PastInUse), on the bytes of a block (proofs/BlockBytes) and on the map's words (bitmap: BitSet).
use mathlib.Core.Path.{◌≡◌, refl, sym, ap, ap₂, ◌∙◌}
use mathlib.Core.List.{List, [], ◌∷◌}
use Prim.Native.Nat.{ℕ, ◌+◌, ◌*◌, ◌/◌, ◌%◌, ◌<◌}
use native.Mathlib.Omega.{arith}
use lib.Dec.{eqb}
use borrow.Author.Tests.{eqb-true, eqb-false}
use Rattle.lists.specs.Write.{written}
use Rattle.lists.proofs.Choice.{on}
use Rattle.lists.proofs.EqualParts.{same_front, front_same}
use Rattle.format.specs.Size.{block_size}
use Rattle.number.specs.Number.{byte_at}
use Rattle.refusal.specs.Answer.{Answer, given, refused}
use Rattle.bitmap.specs.Words.{word_count}
use Rattle.bitmap.specs.Bit.{word_at, with_bit}
use Rattle.bitmap.proofs.BitSet.{word_set, word_other, map_length}
use Rattle.intake.specs.Memory.{Memory, with_block}
use Rattle.intake.specs.Check.{check_call}
use Rattle.intake.specs.Deliver.{Delivery, Verdict, new, same, verdict, after_verdict, stored, delivery}
use Rattle.intake.specs.Packet.{deliveries_in, after_each, result_of, results_of_each, settled_packet, packet}
use Rattle.intake.specs.InUse.{SameInUse, SamePast}
use Rattle.intake.proofs.RulesPassed.{sound_accepted}
use Rattle.intake.proofs.BlockBytes.{byte_inside, byte_outside, image_length}
use Rattle.intake.proofs.Verdict.{Passed, block_inside, passed}
use Rattle.intake.proofs.PastInUse.{call_agree, count_agree, verdict_agree, unread, unwritten}

-- the same piece stored in both
module _ {len : ℕ} {m n : Memory} (a : SameInUse len m n) (block : ℕ) (piece : List ℕ)
    (p : Passed len m block piece) (q : Passed len n block piece) where
  stored_byte : (i : ℕ) → i < len → byte_at (with_block m.image block piece) i ≡ byte_at (with_block n.image block piece) i
  stored_byte i l =
      let room_m = block_inside len m block p.sound p.inside in
      let room_n = block_inside len n block q.sound q.inside in
      let j = i % block_size in
      let short : j < block_size = omega arith in
      on (eqb (i / block_size) block)
      (λ e. let here : block * block_size + j ≡ i = omega (arith, eqb-true (i / block_size) block e) in
      rw here at (byte_inside m.image block piece p.sized room_m j short ∙ sym (byte_inside n.image block piece p.sized room_n j short)))
      (λ e. let other = eqb-false (i / block_size) block e in
      byte_outside m.image block piece p.sized room_m i other ∙ same_front 0 m.image n.image len i a.bytes l
      ∙ sym (byte_outside n.image block piece p.sized room_n i other))

  stored_word : (i : ℕ) → i < word_count len → word_at (with_bit m.map block) i ≡ word_at (with_bit n.map block) i
  stored_word i l =
      let inside = p.inside in
      let long_m = (sound_accepted len m p.sound).map_long in
      let long_n = (sound_accepted len n q.sound).map_long in
      let same = same_front 0 m.map n.map (word_count len) in
      on (eqb i (block / 64))
      (λ e. rw (eqb-true i (block / 64) e, word_set m.map block (omega arith), word_set n.map block (omega arith), same (block / 64) a.words (omega arith)))
      (λ e. let other = eqb-false i (block / 64) e in
      word_other m.map block i other ∙ same i a.words l ∙ sym (word_other n.map block i other))

  stored_in_use : SameInUse len (stored m block piece) (stored n block piece)
  unfolding stored
  stored_in_use =
      let images = image_length m.image block piece p.sized (block_inside len m block p.sound p.inside)
      ∙ a.image_length ∙ sym (image_length n.image block piece p.sized (block_inside len n block q.sound q.inside)) in
      let maps = map_length m.map block ∙ a.map_length ∙ sym (map_length n.map block) in
      record {
        image_length = images;
        map_length = maps;
        bytes = front_same 0 (with_block m.image block piece) (with_block n.image block piece) len images stored_byte;
        words = front_same 0 (with_bit m.map block) (with_bit n.map block) (word_count len) maps stored_word;
      }

pub in_use_kept : {len : ℕ} {m n : Memory} → SameInUse len m n → (block : ℕ) (piece : List ℕ)
    → SameInUse len (delivery len m block piece).memory (delivery len n block piece).memory
unfolding delivery
in_use_kept {len} {m} {n} a block piece = rw (verdict_agree a block piece) (by (verdict len n block piece) refl)
  where
    by : (v : Answer Verdict) → verdict len n block piece ≡ v → SameInUse len (after_verdict m block piece v) (after_verdict n block piece v)
    by (refused f) e = a
    by (given same) e = a
    by (given new) e = stored_in_use a block piece (passed len m block piece (verdict_agree a block piece ∙ e)) (passed len n block piece e)

-- deliveries one after the other
each_in_use : {len : ℕ} {m n : Memory} → SameInUse len m n → (all : List Delivery) → SameInUse len (after_each len m all) (after_each len n all)
unfolding after_each
each_in_use a [] = a
each_in_use {len} {m} {n} a (d ∷ rest) =
    each_in_use {m = (delivery len m d.block d.piece).memory} {n = (delivery len n d.block d.piece).memory} (in_use_kept a d.block d.piece) rest

each_unread : {len : ℕ} {m n : Memory} → SameInUse len m n → (all : List Delivery) → results_of_each len m all ≡ results_of_each len n all
unfolding results_of_each
each_unread a [] = refl
each_unread {len} {m} {n} a (d ∷ rest) =
    ap₂ (λ (x : ℕ) (xs : List ℕ). x ∷ xs) (ap result_of (unread a d.block d.piece))
    (each_unread {m = (delivery len m d.block d.piece).memory} {n = (delivery len n d.block d.piece).memory} (in_use_kept a d.block d.piece) rest)

each_unwritten : (len : ℕ) (m : Memory) (all : List Delivery) → SamePast len (after_each len m all) m
unfolding after_each
each_unwritten len m [] = record { bytes = refl; words = refl }
each_unwritten len m (d ∷ rest) =
    let later = each_unwritten len (delivery len m d.block d.piece).memory rest in
    let first = unwritten len m d.block d.piece in
    record { bytes = later.bytes ∙ first.bytes; words = later.words ∙ first.words }

module _ {len : ℕ} {m n : Memory} (a : SameInUse len m n) (blocks pieces list : List ℕ) where
  same_check : check_call len m (deliveries_in blocks pieces list) ≡ check_call len n (deliveries_in blocks pieces list)
  same_check = call_agree a refl

  pub packet_unread : ((packet len m blocks pieces list).answer ≡ (packet len n blocks pieces list).answer)
      × ((packet len m blocks pieces list).results ≡ (packet len n blocks pieces list).results)
  unfolding packet
  packet_unread = rw same_check (by (check_call len n (deliveries_in blocks pieces list)))
    where
      by : (all : Answer (List Delivery)) → ((settled_packet len m list all).answer ≡ (settled_packet len n list all).answer)
          × ((settled_packet len m list all).results ≡ (settled_packet len n list all).results)
      by (given all) = (ap given (count_agree (each_in_use a all)), ap (written list) (each_unread a all))
      by (refused f) = (refl, refl)

pub packet_unwritten : (len : ℕ) (m : Memory) (blocks pieces list : List ℕ) → SamePast len (packet len m blocks pieces list).memory m
unfolding packet
packet_unwritten len m blocks pieces list = by (check_call len m (deliveries_in blocks pieces list))
  where
    by : (all : Answer (List Delivery)) → SamePast len (settled_packet len m list all).memory m
    by (given all) = each_unwritten len m all
    by (refused f) = record { bytes = refl; words = refl }
