-- A block's bytes in the image (rule 1.7), as the code takes them and after a block is replaced.
--     part_block, part_equal       the slice that the code borrows
--     put_block                    the image when it has come back
--     byte_inside, byte_outside    the block's bytes are the piece's, every other byte is as before
--     block_put, block_other       the same by blocks
--     bytes_past, image_length     bytes past a later place are as before, and the image keeps its length
--     byte_of_block                a byte of the image is a byte of its block
use mathlib.Core.Path.{◌≡◌, sym, ap, ◌∙◌}
use mathlib.Core.Bool.{Bool}
use mathlib.Core.List.{List, ◌++◌}
use Prim.Native.Nat.{ℕ, ◌+◌, ◌-◌, ◌*◌, ◌/◌, ◌<◌, ◌≤◌}
use native.Mathlib.Omega.{arith}
use lib.ListN.{length, take, drop, get_or, length-append, length-take, length-drop, get_or-append}
use lib.Seq.{length-take-le, get_or-take, get_or-drop, get_or-append-add, ext_get_or, drop-drop}
use lib.Dec.{ltb}
use borrow.Author.Tests.{ltb-true, ltb-false}
use borrow.Rule.Slice.PartMut.{put_mid}
use Rattle.format.specs.Size.{block_size}
use Rattle.number.specs.Number.{byte_at}
use Rattle.intake.specs.Equal.{equal}
use Rattle.intake.specs.Memory.{block_at, with_block}
use Rattle.lists.proofs.Choice.{on}
use Rattle.lists.proofs.Part.{part_sized}

module _ (image : List ℕ) (block : ℕ) where
  pub part_block : take (block * block_size + block_size - block * block_size) (drop (block * block_size) image) ≡ block_at image block
  unfolding block_at
  part_block = part_sized image (block * block_size) block_size

  pub part_equal : (piece : List ℕ) {found t : Bool}
      → found ≡ equal (take (block * block_size + block_size - block * block_size) (drop (block * block_size) image)) piece
      → found ≡ t → equal (block_at image block) piece ≡ t
  part_equal piece e f = ap (λ (s : List ℕ). equal s piece) (sym part_block) ∙ sym e ∙ f

  pub put_block : (piece : List ℕ) → put_mid (block * block_size) (block * block_size + block_size - block * block_size) image piece ≡ with_block image block piece
  unfolding with_block
  put_block piece =
      let size : block * block_size + block_size - block * block_size ≡ block_size = omega arith in
      rw (size, drop-drop block_size (block * block_size) image)

  pub byte_of_block : (j : ℕ) → j < block_size → byte_at (block_at image block) j ≡ byte_at image (block * block_size + j)
  unfolding block_at
  byte_of_block j h = get_or-take block_size (drop (block * block_size) image) j 0 h ∙ get_or-drop (block * block_size) image j 0

  pub block_length : block * block_size + block_size ≤ length image → length (block_at image block) ≡ block_size
  unfolding block_at
  block_length h = length-take-le block_size (drop (block * block_size) image) (simp length-drop (omega arith))

  module _ (piece : List ℕ) (sized : length piece ≡ block_size) (inside : block * block_size + block_size ≤ length image) where
    front : length (take (block * block_size) image) ≡ block * block_size
    front = length-take-le (block * block_size) image (omega arith)

    pub image_length : length (with_block image block piece) ≡ length image
    unfolding with_block
    image_length = simp (length-append, length-drop, front, sized) (omega arith)

    byte_before : (i : ℕ) → i < block * block_size → byte_at (with_block image block piece) i ≡ byte_at image i
    unfolding with_block
    byte_before i h =
        get_or-append (take (block * block_size) image) (piece ++ drop (block * block_size + block_size) image) 0 i (rw front h)
        ∙ get_or-take (block * block_size) image i 0 h

    past_front : (j : ℕ) → byte_at (with_block image block piece) (block * block_size + j) ≡ get_or (piece ++ drop (block * block_size + block_size) image) j 0
    unfolding with_block
    past_front j =
        rw front at (get_or-append-add (take (block * block_size) image) (piece ++ drop (block * block_size + block_size) image) j 0)

    pub byte_inside : (j : ℕ) → j < block_size → byte_at (with_block image block piece) (block * block_size + j) ≡ byte_at piece j
    byte_inside j h = past_front j ∙ get_or-append piece (drop (block * block_size + block_size) image) 0 j (rw sized h)

    byte_after : (k : ℕ) → byte_at (with_block image block piece) (block * block_size + (block_size + k)) ≡ byte_at image (block * block_size + block_size + k)
    byte_after k =
        past_front (block_size + k) ∙ rw sized at (get_or-append-add piece (drop (block * block_size + block_size) image) k 0)
        ∙ get_or-drop (block * block_size + block_size) image k 0

    pub byte_outside : (i : ℕ) → (i / block_size ≡ block → ⊥) → byte_at (with_block image block piece) i ≡ byte_at image i
    byte_outside i h =
        on (ltb i (block * block_size)) (λ l. byte_before i (ltb-true i (block * block_size) l)) (λ l. after (ltb-false i (block * block_size) l))
      where
        after : block * block_size ≤ i → byte_at (with_block image block piece) i ≡ byte_at image i
        after l =
            let k = i - (block * block_size + block_size) in
            let here : block * block_size + (block_size + k) ≡ i = omega arith in
            let there : block * block_size + block_size + k ≡ i = omega arith in
            ap (λ (n : ℕ). byte_at (with_block image block piece) n) (sym here) ∙ byte_after k ∙ ap (λ (n : ℕ). byte_at image n) there

-- two images that agree on the bytes of a block have the same block there
pub same_block : (s t : List ℕ) (b : ℕ) → length s ≡ length t → ((j : ℕ) → j < block_size → byte_at s (b * block_size + j) ≡ byte_at t (b * block_size + j))
    → block_at s b ≡ block_at t b
unfolding block_at
same_block s t b e h =
    ext_get_or 0 (block_at s b) (block_at t b) (simp (length-take, length-drop, e)) (λ j l.
    byte_of_block s b j (short j l) ∙ h j (short j l) ∙ sym (byte_of_block t b j (short j l)))
  where
    short : (j : ℕ) → j < length (block_at s b) → j < block_size
    short j l = omega (arith, length-take block_size (drop (b * block_size) s))

module _ (image : List ℕ) (block : ℕ) (piece : List ℕ) (sized : length piece ≡ block_size) (inside : block * block_size + block_size ≤ length image) where
  pub block_put : block_at (with_block image block piece) block ≡ piece
  block_put =
      ext_get_or 0 (block_at (with_block image block piece) block) piece (long ∙ sym sized) (λ j l.
      let h : j < block_size = rw long at l in
      byte_of_block (with_block image block piece) block j h ∙ byte_inside image block piece sized inside j h)
    where
      long : length (block_at (with_block image block piece) block) ≡ block_size
      long = block_length (with_block image block piece) block (rw (image_length image block piece sized inside) inside)

  pub block_other : (b : ℕ) → (b ≡ block → ⊥) → block_at (with_block image block piece) b ≡ block_at image b
  block_other b h =
      same_block (with_block image block piece) image b (image_length image block piece sized inside) (λ j l.
      byte_outside image block piece sized inside (b * block_size + j) (λ e. h (omega arith)))

  pub bytes_past : (n : ℕ) → block * block_size + block_size ≤ n → drop n (with_block image block piece) ≡ drop n image
  bytes_past n h =
      ext_get_or 0 (drop n (with_block image block piece)) (drop n image) (simp (length-drop, image_length image block piece sized inside)) (λ i l.
      get_or-drop n (with_block image block piece) i 0
      ∙ byte_outside image block piece sized inside (n + i) (λ e. omega arith)
      ∙ sym (get_or-drop n image i 0))
