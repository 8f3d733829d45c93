-- The memories of specs/File.
--     marked_length, marked_bit, marked_other      the map: its words, and its bits below n and past it
--     order_length, order_block                    the image: its length, and its blocks
--     file_sound, received_sound, whole_sound      refusals 1 to 4 do not apply to them
--     order_whole                                  the received blocks in order, where there is every one, are a whole file
use mathlib.Core.Path.{◌≡◌, refl, sym, ap, ◌∙◌}
use mathlib.Core.Bool.{Bool, true, false}
use mathlib.Core.List.{List, ◌++◌}
use mathlib.Core.Option.{Option, none, some}
use Prim.Native.Nat.{ℕ, zero, suc, ◌+◌, ◌*◌, ◌/◌, ◌%◌, ◌<◌, ◌≤◌}
use native.Mathlib.Omega.{arith}
use lib.ListN.{length, drop, replicate, length-replicate, get_or-replicate, length-append, length-drop}
use lib.Seq.{take-append-le, drop-append-le, drop_at, take_all}
use lib.Dec.{eqb}
use borrow.Author.Tests.{eqb-true, eqb-false}
use Rattle.format.specs.Size.{block_size}
use Rattle.bitmap.specs.Words.{block_count, word_count}
use Rattle.intake.specs.Length.{allowed_length}
use Rattle.bitmap.specs.Bit.{bit}
use Rattle.intake.specs.Sound.{Sound}
use Rattle.intake.specs.Memory.{memory, block_at}
use Rattle.run.specs.Received.{Received, has}
use Rattle.run.specs.File.{or_zeros, in_order, marked, received_file, whole_file, IsWhole}
use Rattle.lists.proofs.Choice.{on, never}
use Rattle.bitmap.proofs.Digit.{digit_zero}
use Rattle.bitmap.proofs.BitSet.{zero_bit, bit_set, bit_other, map_length}
use Rattle.intake.proofs.RulesPassed.{sound, whole_blocks}
use Rattle.bitmap.proofs.SpareBits.{spare_clear}

-- the map
module _ (words : ℕ) (held : ℕ → Bool) where
  pub marked_length : (n : ℕ) → length (marked words held n) ≡ words
  unfolding marked
  marked_length zero = length-replicate words 0
  marked_length (suc n) = on (held n) (λ e. rw e (map_length (marked words held n) n ∙ marked_length n)) (λ e. rw e (marked_length n))

  pub marked_other : (n b : ℕ) → n ≤ b → b < 64 * words → bit (marked words held n) b ≡ false
  unfolding marked
  marked_other zero b h l = zero_bit (replicate words 0) b (rw (get_or-replicate {A = ℕ} words (b / 64) 0 0 (omega arith)) (digit_zero (b % 64)))
  marked_other (suc n) b h l =
      let rest = marked_other n b (omega arith) l in
      on (held n) (λ e. rw e (bit_other (marked words held n) n b (λ q. omega arith) ∙ rest)) (λ e. rw e rest)

  pub marked_bit : (n b : ℕ) → b < n → n ≤ 64 * words → bit (marked words held n) b ≡ held b
  unfolding marked
  marked_bit zero b h l = absurd (omega arith)
  marked_bit (suc n) b h l = on (eqb b n) (λ q. here (eqb-true b n q)) (λ q. below (eqb-false b n q) (λ g. marked_bit n b g (omega arith)))
    where
      here : b ≡ n → bit (marked words held (suc n)) b ≡ held b
      here q =
          rw q
          (on (held n)
          (λ e. rw e (bit_set (marked words held n) n (omega (arith, marked_length n))))
          (λ e. rw e (marked_other n n (omega arith) (omega arith))))

      below : (b ≡ n → ⊥) → (b < n → bit (marked words held n) b ≡ held b) → bit (marked words held (suc n)) b ≡ held b
      below q rest = on (held n) (λ e. rw e (bit_other (marked words held n) n b q ∙ rest (omega arith))) (λ e. rw e (rest (omega arith)))

-- refusals 1 to 4 do not apply to an image of len bytes with such a map
file_sound : (len : ℕ) (image : List ℕ) (held : ℕ → Bool) → allowed_length len ≡ true → length image ≡ len
    → Sound len (memory image (marked (word_count len) held (block_count len)))
file_sound len image held allowed long =
    let map = marked (word_count len) held (block_count len) in
    let words = marked_length (word_count len) held (block_count len) in
    sound len (memory image map)
    (record { allowed = allowed; image_long = omega arith; map_long = omega (arith, words) })
    (spare_clear len map (marked_other (word_count len) held (block_count len)))

-- a block of two parts of an image
block_before : (s t : List ℕ) (b : ℕ) → b * block_size + block_size ≤ length s → block_at (s ++ t) b ≡ block_at s b
unfolding block_at
block_before s t b h =
    rw (drop-append-le (b * block_size) s t (omega arith)) (take-append-le block_size (drop (b * block_size) s) t (simp length-drop (omega arith)))

block_last : (s t : List ℕ) (b : ℕ) → length s ≡ b * block_size → length t ≡ block_size → block_at (s ++ t) b ≡ t
unfolding block_at
block_last s t b h l = rw (drop_at s t (b * block_size) h) (take_all block_size t (omega arith))

-- the image, where each of the blocks below n has the length of a block
abbrev pub Sized : ℕ → Received → Type 0
Sized n r = (b : ℕ) → b < n → length (or_zeros (r b)) ≡ block_size

module _ (r : Received) where
  pub order_length : (n : ℕ) → Sized n r → length (in_order n r) ≡ n * block_size
  unfolding in_order
  order_length zero sized = refl
  order_length (suc n) sized = simp length-append (omega (arith, order_length n (λ b h. sized b (omega arith)), sized n (omega arith)))

  pub order_block : (n b : ℕ) → Sized n r → b < n → block_at (in_order n r) b ≡ or_zeros (r b)
  unfolding in_order
  order_block zero b sized h = absurd (omega arith)
  order_block (suc n) b sized h =
      on (eqb b n)
      (λ q. rw (eqb-true b n q) (block_last (in_order n r) (or_zeros (r n)) n long (sized n (omega arith))))
      (λ q. before (eqb-false b n q) (order_block n b less))
    where
      less : Sized n r
      less c l = sized c (omega arith)

      long : length (in_order n r) ≡ n * block_size
      long = order_length n less

      before : (b ≡ n → ⊥) → (b < n → block_at (in_order n r) b ≡ or_zeros (r b)) → block_at (in_order n r ++ or_zeros (r n)) b ≡ or_zeros (r b)
      before q rest = block_before (in_order n r) (or_zeros (r n)) b (omega (arith, long)) ∙ rest (omega arith)

received_bytes : (o : Option (List ℕ)) → has o ≡ true → o ≡ some (or_zeros o)
received_bytes (some piece) e = refl
received_bytes none e = never (cc)

module _ (len : ℕ) (allowed : allowed_length len ≡ true) where
  pub received_sound : (r : Received) → Sized (block_count len) r → Sound len (received_file len r)
  unfolding received_file
  received_sound r sized =
      file_sound len (in_order (block_count len) r) _ allowed (order_length r (block_count len) sized ∙ sym (whole_blocks len allowed))

  pub whole_sound : (file : List ℕ) → length file ≡ len → Sound len (whole_file len file)
  unfolding whole_file
  whole_sound file long = file_sound len file _ allowed long

  pub order_whole : (r : Received) → Sized (block_count len) r → ((b : ℕ) → b < block_count len → has (r b) ≡ true) → IsWhole len r (in_order (block_count len) r)
  order_whole r sized every =
      record {
        long = order_length r (block_count len) sized ∙ sym (whole_blocks len allowed);
        blocks = λ b h. received_bytes (r b) (every b h) ∙ ap some (sym (order_block r (block_count len) b sized h));
      }
