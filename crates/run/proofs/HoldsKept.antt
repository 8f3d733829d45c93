-- What holds of image and map at the end of any run (specs/Holds): how it begins, and that each delivery keeps it. Rule 8.6.
--     holds_start      after an opening that is not refused, with nothing received
--     holds_sound      refusals 1 to 4 never apply
--     holds_deliver, holds_each    after a delivery, and after some, with the received blocks updated
-- Rests on the verdict (intake: Verdict), on what storing a block changes (bitmap: BitSet, HeldCount; intake: BlockBytes) and on proofs/ReceivedBlocks.
use mathlib.Core.Path.{◌≡◌, refl, sym, ap, ◌∙◌, subst}
use mathlib.Core.Bool.{true, false}
use mathlib.Core.List.{List, [], ◌∷◌}
use mathlib.Core.Option.{none, some}
use Prim.Native.Nat.{ℕ, ◌+◌, ◌*◌, ◌/◌, ◌%◌, ◌<◌, ◌≤◌}
use native.Mathlib.Omega.{arith}
use lib.ListN.{length, drop, replicate, length-replicate, get_or-replicate, length-append, length-drop, get_or-append}
use lib.Seq.{take_at}
use lib.Dec.{eqb, ltb}
use borrow.Author.Tests.{ltb-true, ltb-false, eqb-true, eqb-false}
use Rattle.format.specs.Size.{block_size}
use Rattle.bitmap.specs.Words.{block_count, word_count}
use Rattle.bitmap.specs.Bit.{word_at, bit}
use Rattle.bitmap.specs.Count.{held_count}
use Rattle.intake.specs.Sound.{Sound}
use Rattle.intake.specs.Memory.{Memory, block_at, with_block}
use Rattle.intake.specs.Open.{Opening, cleared}
use Rattle.intake.specs.Equal.{equal}
use Rattle.intake.specs.Deliver.{Delivery, stored, delivery}
use Rattle.intake.specs.Packet.{after_each}
use Rattle.run.specs.Received.{Received, nothing, receive, receive_each, has}
use Rattle.run.specs.Holds.{Holds}
use Rattle.run.specs.Run.{after_opening}
use Rattle.lists.proofs.Choice.{on, never}
use Rattle.bitmap.proofs.Digit.{digit_zero}
use Rattle.bitmap.proofs.BitSet.{zero_bit, bit_set, bit_other, words_below, words_past, map_length}
use Rattle.intake.proofs.BlockBytes.{block_put, block_other, bytes_past, image_length}
use Rattle.intake.proofs.OpenClears.{opens, past_cleared}
use Rattle.intake.proofs.Verdict.{Passed, block_inside, number_refused, size_refused, bytes_refused, is_same, is_new}
use Rattle.bitmap.proofs.HeldCount.{ones_none, held_set}
use Rattle.intake.proofs.RulesPassed.{Accepted, sound, sound_accepted}
use Rattle.bitmap.proofs.SpareBits.{spare_clear}
use Rattle.run.proofs.ReceivedBlocks.{number_brings_nothing, size_brings_nothing, receive_nothing, receive_again, receive_new, receive_other}
use Rattle.run.proofs.ReceivedBlocks.{count_new, count_nothing}

-- the map after an opening
module _ (len : ℕ) (map : List ℕ) where
  word_cleared : (i : ℕ) → i < word_count len → word_at (cleared len map) i ≡ 0
  unfolding cleared
  word_cleared i h =
      get_or-append (replicate (word_count len) 0) (drop (word_count len) map) 0 i (rw (length-replicate {A = ℕ} (word_count len) 0) h)
      ∙ get_or-replicate (word_count len) i 0 0 h

  bit_cleared : (b : ℕ) → b / 64 < word_count len → bit (cleared len map) b ≡ false
  bit_cleared b h = zero_bit (cleared len map) b (rw (word_cleared (b / 64) h) (digit_zero (b % 64)))

  cleared_length : word_count len ≤ length map → length (cleared len map) ≡ length map
  unfolding cleared
  cleared_length h = simp (length-append, length-replicate, length-drop) (omega arith)

  held_cleared : held_count len (cleared len map) ≡ 0
  unfolding held_count cleared
  held_cleared =
      rw (take_at (replicate (word_count len) 0) (drop (word_count len) map) (word_count len) (length-replicate (word_count len) 0)) (ones_none (word_count len))

pub holds_start : (len : ℕ) (before : Memory) → Accepted len before.image before.map → Holds len before nothing (after_opening len before)
holds_start len before a =
    rw (ap (λ (o : Opening). o.map) (opens len before.image before.map a))
    record {
      bits = λ b h. bit_cleared len before.map b (omega arith);
      spare = λ b l h. bit_cleared len before.map b (omega arith);
      words = λ i h. rw (word_cleared len before.map i h) (omega arith);
      blocks = λ b piece h f. never (cc);
      other_blocks = λ b h f. refl;
      bytes_past = refl;
      words_past = past_cleared len before.map;
      image_length = refl;
      map_length = cleared_length len before.map a.map_long;
      count = held_cleared len before.map ∙ sym (count_nothing (block_count len));
    }

-- a run's record and buffers pass refusals 1 to 4
module _ {len : ℕ} {before m : Memory} {r : Received} where
  pub holds_sound : Accepted len before.image before.map → Holds len before r m → Sound len m
  holds_sound a h =
      sound len m
      (record { allowed = a.allowed; image_long = rw h.image_length a.image_long; map_long = rw h.map_length a.map_long })
      (spare_clear len m.map h.spare)

  -- received blocks that are the same for every number
  holds_same : {s : Received} → ((b : ℕ) → s b ≡ r b) → Holds len before r m → Holds len before s m
  holds_same {s} same h = subst (λ (x : Received). Holds len before x m) (λ i b. same' b i) h
    where
      same' : (b : ℕ) → r b ≡ s b
      same' b = sym (same b)

-- a block that is stored
module _ (len : ℕ) (before m : Memory) (d : Delivery) (r : Received)
    (t : Passed len m d.block d.piece) (absent : bit m.map d.block ≡ false) (h : Holds len before r m) where
  room : d.block * block_size + block_size ≤ length m.image
  room = block_inside len m d.block t.sound t.inside

  long : word_count len ≤ length m.map
  long = (sound_accepted len m t.sound).map_long

  in_use : d.block / 64 < word_count len
  in_use = omega (arith, t.inside)

  without : has (r d.block) ≡ false
  without = sym (h.bits d.block t.inside) ∙ absent

  received : receive len d r d.block ≡ some d.piece
  received = receive_new len d r t.inside t.sized without

  here : (b : ℕ) (piece : List ℕ) → b ≡ d.block → receive len d r b ≡ some piece → block_at (with_block m.image d.block d.piece) b ≡ piece
  here b piece e f =
      let same : receive len d r d.block ≡ some piece = rw e at f in
      let first : d.piece ≡ piece = cc received in
      rw e (block_put m.image d.block d.piece t.sized room ∙ first)

  gone : (b : ℕ) → b ≡ d.block → receive len d r b ≡ none → ⊥
  gone b e f =
      let same : receive len d r d.block ≡ none = rw e at f in
      never (cc received)

  holds_stored : Holds len before (receive len d r) (stored m d.block d.piece)
  unfolding stored
  holds_stored =
      record {
        bits = λ b l.
            on (eqb b d.block)
            (λ e. rw (eqb-true b d.block e, received) (bit_set m.map d.block (omega (arith, in_use, long))))
            (λ e. rw (receive_other len d r b (eqb-false b d.block e)) (bit_other m.map d.block b (eqb-false b d.block e) ∙ h.bits b l));
        spare = λ b l g. bit_other m.map d.block b (λ e. omega (arith, t.inside)) ∙ h.spare b l g;
        words = λ i l. words_below m.map d.block i (h.words i l);
        blocks = λ b piece l f.
            on (eqb b d.block)
            (λ e. here b piece (eqb-true b d.block e) f)
            (λ e. let other = eqb-false b d.block e in
            block_other m.image d.block d.piece t.sized room b other ∙ h.blocks b piece l (sym (receive_other len d r b other) ∙ f));
        other_blocks = λ b l f.
            on (eqb b d.block)
            (λ e. absurd (gone b (eqb-true b d.block e) f))
            (λ e. let other = eqb-false b d.block e in
            block_other m.image d.block d.piece t.sized room b other ∙ h.other_blocks b l (sym (receive_other len d r b other) ∙ f));
        bytes_past = bytes_past m.image d.block d.piece t.sized room len (omega (arith, t.inside)) ∙ h.bytes_past;
        words_past = words_past m.map d.block (word_count len) in_use ∙ h.words_past;
        image_length = image_length m.image d.block d.piece t.sized room ∙ h.image_length;
        map_length = map_length m.map d.block ∙ h.map_length;
        count =
            let more = held_set len m.map d.block t.inside long absent in
            let new = count_new (block_count len) r (receive len d r) d.block t.inside (receive_other len d r) without (ap has received) in
            omega (arith, more, h.count, new);
      }

pub holds_deliver : {len : ℕ} {before m : Memory} {r : Received} (d : Delivery) → Accepted len before.image before.map → Holds len before r m
    → Holds len before (receive len d r) (delivery len m d.block d.piece).memory
unfolding delivery
holds_deliver {len} {before} {m} {r} d a h =
    on (ltb d.block (block_count len)) (λ l. inside (ltb-true d.block (block_count len) l)) (λ l. outside (ltb-false d.block (block_count len) l))
  where
    Goal : Type 0
    Goal = Holds len before (receive len d r) (delivery len m d.block d.piece).memory

    passes : Sound len m
    passes = holds_sound a h

    outside : block_count len ≤ d.block → Goal
    outside l = rw (number_refused len m d.block d.piece passes l) (holds_same (receive_nothing len d r (number_brings_nothing len d l)) h)

    held : d.block < block_count len → length d.piece ≡ block_size → bit m.map d.block ≡ true → Goal
    held l s b =
        let again = holds_same (receive_again len d r (sym (h.bits d.block l) ∙ b)) h in
        on (equal (block_at m.image d.block) d.piece)
        (λ q. rw (is_same len m d.block d.piece passes l s b q) again)
        (λ q. rw (bytes_refused len m d.block d.piece passes l s b q) again)

    sized : d.block < block_count len → length d.piece ≡ block_size → Goal
    sized l s =
        on (bit m.map d.block)
        (λ b. held l s b)
        (λ b. rw (is_new len m d.block d.piece passes l s b) (holds_stored len before m d r (record { sound = passes; inside = l; sized = s }) b h))

    inside : d.block < block_count len → Goal
    inside l =
        on (eqb (length d.piece) block_size)
        (λ s. sized l (eqb-true (length d.piece) block_size s))
        (λ s. let other = eqb-false (length d.piece) block_size s in
        rw (size_refused len m d.block d.piece passes l other) (holds_same (receive_nothing len d r (size_brings_nothing len d l other)) h))

pub holds_each : {len : ℕ} {before m : Memory} {r : Received} (deliveries : List Delivery) → Accepted len before.image before.map → Holds len before r m
    → Holds len before (receive_each len deliveries r) (after_each len m deliveries)
unfolding receive_each after_each
holds_each [] a h = h
holds_each {len = len} {m = m} (d ∷ rest) a h = holds_each {m = (delivery len m d.block d.piece).memory} rest a (holds_deliver d a h)
