-- Two memories whose held blocks have the same bytes, in a file of len bytes. Rules 1.7, 1.8 and 4.4.
--     SameBlocks, MoreBlocks     the same blocks are held, or those of the first are held in the second, with the same bytes
--     InFile                     a page of the file, its room, its bytes by its blocks
--     held_same, held_more       a page is held in both, or in the second where it is in the first
--     part_same                  a page that is held has the same part of both images
--     first_same                 the first block, where it is held
use mathlib.Core.Path.{◌≡◌, sym, ap, ◌∙◌}
use mathlib.Core.Bool.{true, not, ◌&&◌}
use Prim.Native.Nat.{ℕ, ◌+◌, ◌*◌, ◌/◌, ◌%◌, ◌<◌, ◌≤◌}
use native.Mathlib.Nat.{div-add-mod', mul-le-mul_right, suc-mul, mul_assoc}
use native.Mathlib.Omega.{arith}
use lib.ListN.{length, drop, length-drop}
use lib.Seq.{length-take-le, get_or-take, get_or-drop, ext_get_or}
use lib.Dec.{leb, eqb}
use borrow.Author.Tests.{not-true, not-false, leb-true}
use Rattle.lists.specs.Alias.{Bytes, Words}
use Rattle.format.specs.Size.{block_size}
use Rattle.number.specs.Number.{byte_at}
use Rattle.intake.specs.Length.{allowed_length, longest}
use Rattle.bitmap.specs.Words.{block_count}
use Rattle.bitmap.specs.Bit.{bit}
use Rattle.intake.specs.Sound.{Sound}
use Rattle.intake.specs.Memory.{Memory, block_at}
use Rattle.chain.specs.Held.{blocks_in_page, block_missing, page_held}
use Rattle.chain.specs.File.{page_part}
use Rattle.lists.proofs.Choice.{both_true}
use Rattle.lists.proofs.Any.{any_not, any_none, any_agree}
use Rattle.intake.proofs.BlockBytes.{byte_of_block}
use Rattle.intake.proofs.RulesPassed.{sound_accepted}

pub record SameBlocks (len : ℕ) (a b : Memory) : Type 0 where
  pub bits : (n : ℕ) → n < block_count len → bit a.map n ≡ bit b.map n
  pub bytes : (n : ℕ) → n < block_count len → bit a.map n ≡ true → block_at a.image n ≡ block_at b.image n

pub record MoreBlocks (len : ℕ) (a b : Memory) : Type 0 where
  pub bits : (n : ℕ) → n < block_count len → bit a.map n ≡ true → bit b.map n ≡ true
  pub bytes : (n : ℕ) → n < block_count len → bit a.map n ≡ true → block_at a.image n ≡ block_at b.image n

pub same_more : {len : ℕ} {a b : Memory} → SameBlocks len a b → MoreBlocks len a b
same_more s = record { bits = λ n h e. sym (s.bits n h) ∙ e; bytes = s.bytes }

-- a page of the file: its size is a whole number of blocks, and its number is below P = len / size
pub record InFile (len size number : ℕ) : Type 0 where
  pub whole : size % block_size ≡ 0
  pub inside : number < len / size

module _ {len size number : ℕ} (p : InFile len size number) where
  pub page_room : number * size + size ≤ len
  page_room = omega (arith, div-add-mod' len size, mul-le-mul_right size p.inside, suc-mul number size)

  -- a page's bytes by its blocks
  pub page_blocks : number * size ≡ number * blocks_in_page size * block_size
  page_blocks =
      let size_blocks : size ≡ blocks_in_page size * block_size = omega (arith, p.whole) in
      ap (λ (n : ℕ). number * n) size_blocks ∙ sym (mul_assoc number (blocks_in_page size) block_size)

  pub block_low : (i : ℕ) → i < blocks_in_page size → number * blocks_in_page size + i < block_count len
  block_low i h = omega (arith, page_room, page_blocks, p.whole)

  pub part_length : (image : Bytes) → len ≤ length image → length (page_part size image number) ≡ size
  unfolding page_part
  part_length image h = length-take-le size (drop (number * size) image) (simp length-drop (omega (arith, page_room)))

  part_byte : (image : Bytes) (j : ℕ) → j < size
      → byte_at (page_part size image number) j ≡ byte_at (block_at image (number * blocks_in_page size + j / block_size)) (j % block_size)
  unfolding page_part
  part_byte image j h =
      let block = number * blocks_in_page size + j / block_size in
      let place : block * block_size + j % block_size ≡ number * size + j = omega (arith, page_blocks) in
      get_or-take size (drop (number * size) image) j 0 h ∙ get_or-drop (number * size) image j 0
      ∙ ap (byte_at image) (sym place) ∙ sym (byte_of_block image block (j % block_size) (omega arith))

-- a page is held exactly when each of its blocks is
pub held_bit : (size : ℕ) (map : Words) (number i : ℕ) → page_held size map number ≡ true → i < blocks_in_page size
    → bit map (number * blocks_in_page size + i) ≡ true
unfolding page_held block_missing
held_bit size map number i e h =
    not-false (bit map (number * blocks_in_page size + i))
    (any_not (block_missing size map number) (blocks_in_page size) 0 i (not-true _ e) (omega arith) (omega arith))

bit_held : (size : ℕ) (map : Words) (number : ℕ) → ((i : ℕ) → i < blocks_in_page size → bit map (number * blocks_in_page size + i) ≡ true)
    → page_held size map number ≡ true
unfolding page_held block_missing
bit_held size map number each =
    ap not (any_none (block_missing size map number) (blocks_in_page size) 0 (λ i h l. ap not (each i (omega arith))))

pub held_same : {len size number : ℕ} {a b : Memory} → SameBlocks len a b → InFile len size number
    → page_held size a.map number ≡ page_held size b.map number
unfolding page_held block_missing
held_same {len} {size} {number} {a} {b} s p =
    ap not (any_agree (block_missing size a.map number) (block_missing size b.map number) (blocks_in_page size) 0 (λ i h l.
    ap not (s.bits (number * blocks_in_page size + i) (block_low p i (omega arith)))))

-- a file that is not refused has a first block
pub some_block : (len : ℕ) (m : Memory) → Sound len m → 0 < block_count len
unfolding allowed_length
some_block len m sound =
    let allowed = (sound_accepted len m sound).allowed in
    let long = both_true (leb block_size len) (leb len longest) (both_true (eqb (len % block_size) 0) (leb block_size len && leb len longest) allowed).1 in
    omega (arith, leb-true block_size len long.0)

module _ {len : ℕ} {a b : Memory} (more : MoreBlocks len a b)
    (sound_a : Sound len a) (sound_b : Sound len b) where
  pub held_more : {size number : ℕ} → InFile len size number → page_held size a.map number ≡ true → page_held size b.map number ≡ true
  held_more {size} {number} p e =
      bit_held size b.map number (λ i h. more.bits (number * blocks_in_page size + i) (block_low p i h) (held_bit size a.map number i e h))

  pub part_same : {size number : ℕ} → InFile len size number → page_held size a.map number ≡ true
      → page_part size a.image number ≡ page_part size b.image number
  part_same {size} {number} p e =
      ext_get_or 0 (page_part size a.image number) (page_part size b.image number) (long_a ∙ sym long_b) (λ j l.
      let h : j < size = rw long_a at l in
      let i : j / block_size < blocks_in_page size = omega (arith, p.whole) in
      part_byte p a.image j h
      ∙ ap (λ (s : Bytes). byte_at s (j % block_size))
      (more.bytes (number * blocks_in_page size + j / block_size) (block_low p (j / block_size) i) (held_bit size a.map number (j / block_size) e i))
      ∙ sym (part_byte p b.image j h))
    where
      long_a : length (page_part size a.image number) ≡ size
      long_a = part_length p a.image (sound_accepted len a sound_a).image_long

      long_b : length (page_part size b.image number) ≡ size
      long_b = part_length p b.image (sound_accepted len b sound_b).image_long

  pub first_same : bit a.map 0 ≡ true → block_at a.image 0 ≡ block_at b.image 0
  first_same e = more.bytes 0 (some_block len a sound_a) e
