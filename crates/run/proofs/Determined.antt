-- Rule 8.9: the received blocks determine image and map at the end of a run (specs/Holds).
--     holds_alike     two memories that hold for received blocks that are equal below B are equal
-- Rests on the digits of a word (bitmap: Digit) and the bytes of a block (intake: BlockBytes).
use mathlib.Core.Path.{◌≡◌, refl, sym, ap, ap₂, ◌∙◌}
use mathlib.Core.Bool.{true}
use mathlib.Core.List.{List}
use mathlib.Core.Option.{Option, none, some}
use Prim.Native.Nat.{ℕ, ◌+◌, ◌*◌, ◌/◌, ◌%◌, ◌<◌}
use native.Mathlib.Omega.{arith}
use lib.Dec.{ltb}
use borrow.Author.Tests.{ltb-true, ltb-false}
use Rattle.format.specs.Size.{block_size}
use Rattle.number.specs.Number.{byte_at}
use Rattle.bitmap.specs.Words.{block_count, word_count}
use Rattle.intake.specs.Length.{allowed_length}
use Rattle.bitmap.specs.Bit.{word_at, bit}
use Rattle.intake.specs.Memory.{Memory, memory, block_at}
use Rattle.run.specs.Received.{Received, has}
use Rattle.run.specs.Holds.{Holds}
use Rattle.lists.proofs.Choice.{on}
use Rattle.lists.proofs.EqualParts.{same_parts}
use Rattle.bitmap.proofs.Digit.{same_digits}
use Rattle.bitmap.proofs.BitSet.{same_bit}
use Rattle.intake.proofs.BlockBytes.{byte_of_block}
use Rattle.intake.proofs.RulesPassed.{whole_blocks}

module _ {len : ℕ} {before m n : Memory} {r s : Received}
    (same : (b : ℕ) → b < block_count len → r b ≡ s b) (h : Holds len before r m) (k : Holds len before s n) where
  same_bits : (b : ℕ) → b < 64 * word_count len → bit m.map b ≡ bit n.map b
  same_bits b l =
      on (ltb b (block_count len))
      (λ t. let i = ltb-true b (block_count len) t in
      h.bits b i ∙ ap has (same b i) ∙ sym (k.bits b i))
      (λ t. let o = ltb-false b (block_count len) t in
      h.spare b o l ∙ sym (k.spare b o l))

  same_words : (i : ℕ) → i < word_count len → word_at m.map i ≡ word_at n.map i
  same_words i l =
      same_digits 64 (word_at m.map i) (word_at n.map i) (h.words i l) (k.words i l) (λ j g.
      let p : (64 * i + j) / 64 ≡ i = omega arith in
      let q : (64 * i + j) % 64 ≡ j = omega arith in
      rw (p, q) at (same_bit m.map n.map (64 * i + j) (same_bits (64 * i + j) (omega arith))))

  same_blocks : (b : ℕ) → b < block_count len → block_at m.image b ≡ block_at n.image b
  same_blocks b l = by (r b) refl
    where
      by : (o : Option (List ℕ)) → r b ≡ o → block_at m.image b ≡ block_at n.image b
      by none e = h.other_blocks b l e ∙ sym (k.other_blocks b l (sym (same b l) ∙ e))
      by (some piece) e = h.blocks b piece l e ∙ sym (k.blocks b piece l (sym (same b l) ∙ e))

  same_bytes : (i : ℕ) → i / block_size < block_count len → byte_at m.image i ≡ byte_at n.image i
  same_bytes i l =
      let b = i / block_size in
      let j = i % block_size in
      let place : b * block_size + j ≡ i = omega arith in
      rw place at
      (sym (byte_of_block m.image b j (omega arith)) ∙ ap (λ (x : List ℕ). byte_at x j) (same_blocks b l) ∙ byte_of_block n.image b j (omega arith))

  pub holds_alike : allowed_length len ≡ true → m ≡ n
  holds_alike allowed =
      ap₂ memory
      (same_parts 0 m.image n.image len (h.image_length ∙ sym k.image_length)
      (λ i l. same_bytes i (omega (arith, whole_blocks len allowed)))
      (h.bytes_past ∙ sym k.bytes_past))
      (same_parts 0 m.map n.map (word_count len) (h.map_length ∙ sym k.map_length) same_words (h.words_past ∙ sym k.words_past))
