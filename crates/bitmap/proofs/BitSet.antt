-- A block's bit in the map (specs/Bit), after one is set.
--     bit_past, set_past       past the map's end no bit is set
--     bit_full                 each bit of a word of ones is set
--     bit_set, bit_other       the bit set is one, every other is as before
--     word_set, word_other     the block's word, and every other
--     words_below              words keep to 64 bits
--     words_past, map_length   later words are as before, and the map keeps its length
-- Rests on the digits of one word (proofs/Digit).
use mathlib.Core.Path.{◌≡◌, refl, sym, ap, ◌∙◌}
use mathlib.Core.Bool.{true, false}
use mathlib.Core.List.{List}
use Prim.Native.Nat.{ℕ, ◌+◌, ◌/◌, ◌%◌, ◌^◌, ◌<◌, ◌≤◌}
use native.Mathlib.Omega.{arith}
use lib.ListN.{drop, length-set, length, get_or-eq_default}
use lib.Seq.{drop-set-lt, set_out, get_or-set_same, get_or-set_other}
use lib.Bits.{bit_or}
use lib.Dec.{eqb, ltb}
use borrow.Author.Tests.{ltb-true, ltb-false, eqb-true, eqb-false}
use Rattle.bitmap.specs.Bit.{digit, word_at, bit, with_bit}
use Rattle.lists.proofs.Choice.{on}
use Rattle.bitmap.proofs.Digit.{digit_set, digit_other, digit_zero, set_below, all_ones}

-- a bit that is not one is the digit 0, and the other way round; equal bits are equal digits
pub bit_zero : (map : List ℕ) (b : ℕ) → bit map b ≡ false → digit (word_at map (b / 64)) (b % 64) ≡ 0
unfolding bit
bit_zero map b e = omega (arith, eqb-false (digit (word_at map (b / 64)) (b % 64)) 1 e)

bit_one : (map : List ℕ) (b : ℕ) → bit map b ≡ true → digit (word_at map (b / 64)) (b % 64) ≡ 1
unfolding bit
bit_one map b e = eqb-true (digit (word_at map (b / 64)) (b % 64)) 1 e

pub zero_bit : (map : List ℕ) (b : ℕ) → digit (word_at map (b / 64)) (b % 64) ≡ 0 → bit map b ≡ false
unfolding bit
zero_bit map b e = rw e

pub same_bit : (s t : List ℕ) (b : ℕ) → bit s b ≡ bit t b → digit (word_at s (b / 64)) (b % 64) ≡ digit (word_at t (b / 64)) (b % 64)
same_bit s t b e = on (bit s b) (λ f. bit_one s b f ∙ sym (bit_one t b (sym e ∙ f))) (λ f. bit_zero s b f ∙ sym (bit_zero t b (sym e ∙ f)))

module _ (map : List ℕ) (block : ℕ) where
  pub bit_past : length map ≤ block / 64 → bit map block ≡ false
  bit_past h = zero_bit map block (rw (get_or-eq_default map 0 h) (digit_zero (block % 64)))

  pub bit_full : word_at map (block / 64) + 1 ≡ 2 ^ 64 → bit map block ≡ true
  unfolding bit
  bit_full e = rw (all_ones 64 (word_at map (block / 64)) (block % 64) e (omega arith))

  pub map_length : length (with_bit map block) ≡ length map
  unfolding with_bit
  map_length = simp length-set

  pub set_past : length map ≤ block / 64 → with_bit map block ≡ map
  unfolding with_bit
  set_past h = set_out map (block / 64) (bit_or (word_at map (block / 64)) (2 ^ (block % 64))) h

  pub word_set : block / 64 < length map → word_at (with_bit map block) (block / 64) ≡ bit_or (word_at map (block / 64)) (2 ^ (block % 64))
  unfolding with_bit
  word_set h = get_or-set_same map (block / 64) (bit_or (word_at map (block / 64)) (2 ^ (block % 64))) 0 h

  pub word_other : (i : ℕ) → (i ≡ block / 64 → ⊥) → word_at (with_bit map block) i ≡ word_at map i
  unfolding with_bit
  word_other i h = get_or-set_other map (block / 64) i (bit_or (word_at map (block / 64)) (2 ^ (block % 64))) 0 h

  pub bit_set : block / 64 < length map → bit (with_bit map block) block ≡ true
  unfolding bit
  bit_set h = rw (word_set h, digit_set (word_at map (block / 64)) (block % 64))

  -- what holds of a word before the store, and of the block's own word with its digit set, holds of the word after it
  word_after : (P : ℕ → Type 0) (i : ℕ) → P (word_at map i) → (i ≡ block / 64 → P (bit_or (word_at map i) (2 ^ (block % 64)))) → P (word_at (with_bit map block) i)
  word_after P i before own =
      on (eqb i (block / 64))
      (λ e. on (ltb (block / 64) (length map))
      (λ l. here (eqb-true i (block / 64) e) (ltb-true (block / 64) (length map) l))
      (λ l. rw (set_past (ltb-false (block / 64) (length map) l)) before))
      (λ e. rw (word_other i (eqb-false i (block / 64) e)) before)
    where
      here : i ≡ block / 64 → block / 64 < length map → P (word_at (with_bit map block) i)
      here e l = rw (e, word_set l) (rw e at (own e))

  pub bit_other : (b : ℕ) → (b ≡ block → ⊥) → bit (with_bit map block) b ≡ bit map b
  unfolding bit
  bit_other b h =
      word_after (λ (w : ℕ). eqb (digit w (b % 64)) 1 ≡ bit map b) (b / 64) refl (λ e.
      ap (λ (d : ℕ). eqb d 1) (digit_other (word_at map (b / 64)) (block % 64) (b % 64) (λ g. h (omega arith))))

  pub words_below : (i : ℕ) → word_at map i < 2 ^ 64 → word_at (with_bit map block) i < 2 ^ 64
  words_below i h = word_after (λ (w : ℕ). w < 2 ^ 64) i h (λ e. set_below 64 (word_at map i) (block % 64) (omega arith) h)

  pub words_past : (n : ℕ) → block / 64 < n → drop n (with_bit map block) ≡ drop n map
  unfolding with_bit
  words_past n h = drop-set-lt n map (block / 64) (bit_or (word_at map (block / 64)) (2 ^ (block % 64))) h
