-- Rule 7.9: a byte that is relevant for a question stands in a block that is held: `relevant_held`.
-- Rests on what is known of the pages that a walk reads (table_walk: PageWalked).
use mathlib.Core.Path.{◌≡◌, refl}
use mathlib.Core.Bool.{true, false≢true}
use Prim.Native.Nat.{ℕ, ◌+◌, ◌*◌, ◌/◌, ◌%◌, ◌<◌}
use native.Mathlib.Nat.{div-add-mod', mod-lt}
use native.Mathlib.Omega.{arith}
use borrow.Author.Tests.{lt-ltb, leb-true}
use lib.Dec.{leb, ltb}
use Rattle.lists.specs.Alias.{Bytes}
use Rattle.format.specs.Size.{block_size}
use Rattle.number.specs.Agree.{within}
use Rattle.refusal.specs.Answer.{Answer, given, refused, and_then}
use Rattle.table.specs.declared.Table.{Table}
use Rattle.table.specs.Table.{slot_count}
use Rattle.page.specs.Bytes.{page_byte}
use Rattle.bitmap.specs.Bit.{bit}
use Rattle.intake.specs.Sound.{Sound}
use Rattle.intake.specs.Memory.{Memory, block_at}
use Rattle.directory.specs.Header.{num_tables, pointer_at, allowed_tables}
use Rattle.directory.specs.Bytes.{directory_byte}
use Rattle.chain.specs.Held.{blocks_in_page}
use Rattle.table_walk.specs.Asked.{asked_table, with_slot}
use Rattle.table_walk.specs.Walk.{page_size}
use Rattle.table_walk.specs.Reads.{table_reads}
use Rattle.run.specs.Call.{Question, all_rows, one_record, one_text}
use Rattle.depend.specs.Bytes.{page_at, page_with, walked_byte, first_block_byte, table_byte, relevant_in, relevant}
use Rattle.depend.specs.Unread.{held_byte}
use Rattle.lists.proofs.Choice.{on, both_true}
use Rattle.number.proofs.NumberAgree.{within_both}
use Rattle.directory.proofs.GoodHeader.{good_header}
use Rattle.table_walk.proofs.SameBlocks.{some_block, page_room, page_blocks, held_bit}
use Rattle.table_walk.proofs.AskedTable.{asked_sound}
use Rattle.table_walk.proofs.PageWalked.{PageWalked, page_walked}

-- the header fields and at most 30 pointers stand in block 0
pub directory_low : (block : Bytes) (i : ℕ) → directory_byte block i ≡ true → i < block_size
unfolding directory_byte allowed_tables
directory_low block i e =
    on (within 0x00 0x0c i) (λ h. omega (arith, within_both 0x00 0x0c i h))
    (λ h. let both = both_true (allowed_tables (num_tables block)) (within (pointer_at 0) (16 * num_tables block) i) (rw h at e) in
    let few = both_true (leb 1 (num_tables block)) (leb (num_tables block) 30) both.0 in
    omega (arith, leb-true (num_tables block) 30 few.1, within_both (pointer_at 0) (16 * num_tables block) i both.1))

module _ (len : ℕ) (m : Memory) where
  held_true : (i : ℕ) → i < len → bit m.map (i / block_size) ≡ true → held_byte len m.map i ≡ true
  unfolding held_byte
  held_true i h b = simp (lt-ltb i len h, b)

  -- a byte of a page walked
  pub page-held : (i : ℕ) → PageWalked len m (page_at m i) → held_byte len m.map i ≡ true
  page-held i w =
      let size = page_size m in
      let whole = good_header len (block_at m.image 0) w.header in
      let at = div-add-mod' i size in
      let low = mod-lt i {m = size} (omega (arith, whole.least)) in
      let block : i / block_size ≡ i / size * blocks_in_page size + i % size / block_size = omega (arith, page_blocks w.inside) in
      held_true i (omega (arith, page_room w.inside))
      (rw block (held_bit size m.map (i / size) (i % size / block_size) w.held (omega (arith, whole.whole))))

  module _ (sound : Sound len m) where
    pub header_held : (i : ℕ) → first_block_byte m i ≡ true → held_byte len m.map i ≡ true
    unfolding first_block_byte
    header_held i e =
        let both = both_true (bit m.map 0) (directory_byte (block_at m.image 0) i) e in
        let low = directory_low (block_at m.image 0) i both.1 in
        let first : i / block_size ≡ 0 = omega arith in
        held_true i (omega (arith, some_block len m sound)) (rw first both.0)

    table_held : (table : Table) (i : ℕ) → table_byte len m table i ≡ true → held_byte len m.map i ≡ true
    unfolding table_byte walked_byte
    table_held table i e =
        on (first_block_byte m i) (λ h. header_held i h)
        (λ h. page-held i (page_walked len m table (page_at m i)
        (both_true (table_reads len m table (page_at m i)) (page_byte (page_at m i) table (page_with m i) (i % page_size m)) (rw h at e)).0))

  asked_held : (number : ℕ) (x : Answer Table) → x ≡ asked_table len m number → (i : ℕ) → relevant_in len m x i ≡ true → held_byte len m.map i ≡ true
  asked_held number (given table) e i h = table_held (asked_sound len m number e) table i h
  asked_held number (refused f) e i h = absurd (false≢true h)

  slot_held : (number slot : ℕ) (x : Answer Table) → x ≡ asked_table len m number → (i : ℕ) → relevant_in len m (and_then x (λ t. with_slot slot t (given t))) i ≡ true
      → held_byte len m.map i ≡ true
  slot_held number slot (given table) e i h =
      on (ltb slot (slot_count table)) (λ l. asked_held number (given table) e i (rw l at h)) (λ l. absurd (false≢true (rw l at h)))
  slot_held number slot (refused f) e i h = absurd (false≢true h)

  pub relevant_held : (q : Question) (i : ℕ) → relevant len m q i ≡ true → held_byte len m.map i ≡ true
  unfolding relevant
  relevant_held (all_rows number list) i h = asked_held number (asked_table len m number) refl i h
  relevant_held (one_record number k) i h = asked_held number (asked_table len m number) refl i h
  relevant_held (one_text number k slot) i h = slot_held number slot (asked_table len m number) refl i h
