-- The held count (rule 1.17): the ones of a list of words, word by word, and when a bit is set.
--     ones_sum        it is a sum as the library's
--     ones_none       words of 0 have no ones
--     held_set        a bit that was not set makes one more
-- Rests on proofs/Digit and proofs/BitSet.
use mathlib.Core.Path.{◌≡◌, refl, ap}
use mathlib.Core.List.{List}
use mathlib.Core.Bool.{false}
use Prim.Native.Nat.{ℕ, ◌+◌, ◌<◌, ◌≤◌, ◌/◌, ◌%◌, ◌^◌}
use native.Mathlib.Omega.{arith}
use Rattle.std.specs.List.{sum_by}
use Rattle.std.proofs.lemmas.List.Recursion.{is_sum_by}
use Rattle.std.proofs.lemmas.List.Sums.{sum_by-set}
use Rattle.std.proofs.lemmas.List.Folds.{sum_by-replicate}
use lib.Count.{ones}
use lib.ListN.{length, get_or, take, set, replicate}
use lib.Seq.{take-set-lt, length-take-le, get_or-take}
use lib.Bits.{bit_or}
use Rattle.bitmap.specs.Count.{ones_in, held_count}
use Rattle.bitmap.specs.Words.{block_count, word_count}
use Rattle.bitmap.specs.Bit.{word_at, bit, with_bit}
use Rattle.bitmap.proofs.Digit.{ones_set}
use Rattle.bitmap.proofs.BitSet.{bit_zero}

pub ones_sum : (words : List ℕ) → ones_in words ≡ sum_by ones words
unfolding ones_in
ones_sum words = is_sum_by ones_in ones refl (λ _ _. refl) words

ones_replace : (words : List ℕ) (i word : ℕ) → i < length words → ones_in (set words i word) + ones (get_or words i 0) ≡ ones_in words + ones word
ones_replace words i word h = rw (ones_sum (set words i word), ones_sum words) (sum_by-set ones words i word 0 h)

pub ones_none : (n : ℕ) → ones_in (replicate n 0) ≡ 0
unfolding ones
ones_none n =
    let none : ones 0 ≡ 0 = refl in
    rw (ones_sum (replicate n 0), sum_by-replicate ones n 0, none) (omega arith)

-- setting the bit of a block that was not held makes the held count one more
pub held_set : (len : ℕ) (map : List ℕ) (block : ℕ) → block < block_count len → word_count len ≤ length map → bit map block ≡ false
    → held_count len (with_bit map block) ≡ held_count len map + 1
unfolding held_count with_bit
held_set len map block inside long absent =
    let n = word_count len in
    let i = block / 64 in
    let word = word_at map i in
    let h : i < n = omega arith in
    let short : i < length (take n map) = rw (length-take-le n map long) h in
    rw (take-set-lt n map i (bit_or word (2 ^ (block % 64))) h)
    (omega (
      arith,
      ones_replace (take n map) i (bit_or word (2 ^ (block % 64))) short,
      ap ones (get_or-take n map i 0 h),
      ones_set word (block % 64) (bit_zero map block absent),
    ))
