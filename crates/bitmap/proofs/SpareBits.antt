-- Rule 2.4: the bits past the last block (specs/Spare) are all in one word, and one of them is set exactly when that word is not 0
-- above the last block's digit.
--     spare_clear, clear_spare     `spare_bit` is false exactly when each bit from B on is zero
--     spare_none              no bit is past the last block where the blocks fill their words
--     spare_word              else the word decides
-- Rests on proofs/Digit and proofs/BitSet.
use mathlib.Core.Path.{◌≡◌, sym}
use mathlib.Core.Bool.{false, not}
use mathlib.Core.List.{List}
use Prim.Native.Nat.{ℕ, ◌+◌, ◌-◌, ◌*◌, ◌/◌, ◌%◌, ◌^◌, ◌<◌, ◌≤◌}
use native.Mathlib.Omega.{arith}
use lib.Dec.{eqb}
use borrow.Author.Tests.{eqb-true, eqb-false}
use Rattle.bitmap.specs.Words.{block_count, word_count}
use Rattle.bitmap.specs.Bit.{word_at, bit}
use Rattle.bitmap.specs.Spare.{spare_bit}
use Rattle.lists.proofs.Choice.{on}
use Rattle.lists.proofs.Any.{any_none, any_not}
use Rattle.bitmap.proofs.Digit.{above_zero, zero_above}
use Rattle.bitmap.proofs.BitSet.{bit_zero, zero_bit}

module _ (len : ℕ) (map : List ℕ) where
  pub spare_clear : ((b : ℕ) → block_count len ≤ b → b < 64 * word_count len → bit map b ≡ false) → spare_bit len map ≡ false
  unfolding spare_bit
  spare_clear h = any_none (bit map) (64 * word_count len - block_count len) (block_count len) (λ b l g. h b l (omega arith))

  pub clear_spare : spare_bit len map ≡ false → (b : ℕ) → block_count len ≤ b → b < 64 * word_count len → bit map b ≡ false
  unfolding spare_bit
  clear_spare e b l g = any_not (bit map) (64 * word_count len - block_count len) (block_count len) b e l (omega arith)

  module _ {blocks : ℕ} (e : blocks ≡ block_count len) where
    pub spare_none : blocks % 64 ≡ 0 → spare_bit len map ≡ false
    spare_none h = spare_clear (λ b l g. absurd (omega arith))

    pub spare_word : (blocks % 64 ≡ 0 → ⊥) → word_at map (blocks / 64) < 2 ^ 64 → not (eqb (word_at map (blocks / 64) / 2 ^ (blocks % 64)) 0) ≡ spare_bit len map
    spare_word some h =
        on (eqb (word / 2 ^ used) 0)
        (λ z. rw z (sym (clear (eqb-true (word / 2 ^ used) 0 z))))
        (λ z. rw z (on (spare_bit len map) (λ t. sym t) (λ f. absurd (eqb-false (word / 2 ^ used) 0 z (zero f)))))
      where
        word : ℕ
        word = word_at map (blocks / 64)

        used : ℕ
        used = blocks % 64

        clear : word / 2 ^ used ≡ 0 → spare_bit len map ≡ false
        clear z = spare_clear (λ b l g.
            let p : b / 64 ≡ blocks / 64 = omega arith in
            let q : b % 64 ≡ used + (b - blocks) = omega arith in
            zero_bit map b (rw (p, q) (zero_above used word (b - blocks) z)))

        zero : spare_bit len map ≡ false → word / 2 ^ used ≡ 0
        zero f =
            let width : 64 - used + used ≡ 64 = omega arith in
            above_zero (64 - used) used word (rw width h) (λ i l.
            let p : (blocks + i) / 64 ≡ blocks / 64 = omega arith in
            let q : (blocks + i) % 64 ≡ used + i = omega arith in
            rw (p, q) at (bit_zero map (blocks + i) (clear_spare f (blocks + i) (omega arith) (omega arith))))
