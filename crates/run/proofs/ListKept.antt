-- Rule 8.15 (specs/FromList, `EveryRunKeepsLists`): what is read from a list without waiting is read again where more blocks are held.
--     listed_kept                  the row that an element names
--     records_kept, texts_kept     the records and strings
--     lists_kept                   so those of the rows that all rows left
--     record_in_same, text_in_same     where the same blocks are held, every answer is the same
-- Rests on proofs/ListRead, on the blocks that are held (table_walk: SameBlocks) and on the row that an element names (export: ListedRow).
use mathlib.Core.Path.{◌≡◌, refl, sym, ◌∙◌}
use mathlib.Core.Bool.{true, false}
use Prim.Native.Nat.{ℕ, ◌/◌}
use lib.ListN.{length}
use lib.Dec.{ltb, leb}
use Rattle.lists.specs.Alias.{Places}
use Rattle.lists.proofs.Choice.{on}
use Rattle.format.specs.Place.{linkable}
use Rattle.refusal.specs.Answer.{Answer, given, refused, and_then}
use Rattle.table.specs.declared.Table.{Table}
use Rattle.table.specs.Table.{table_of, slot_count}
use Rattle.row.specs.Record.{read_record}
use Rattle.row.specs.Slot.{slot_text}
use Rattle.page.specs.declared.Row.{Row}
use Rattle.bitmap.specs.Bit.{bit}
use Rattle.intake.specs.Sound.{Sound}
use Rattle.intake.specs.Memory.{Memory, block_at}
use Rattle.directory.specs.Header.{header_holds}
use Rattle.directory.proofs.GoodHeader.{good_header}
use Rattle.chain.specs.Found.{Found, found, waiting, then_found}
use Rattle.chain.specs.Held.{page_held}
use Rattle.chain.proofs.Linkable.{inside_both}
use Rattle.listed.specs.Rank.{page_of}
use Rattle.listed.specs.Listed.{listed_row}
use Rattle.table_walk.specs.Asked.{asked_table}
use Rattle.table_walk.specs.Walk.{page_size}
use Rattle.export.specs.Rows.{ask_rows}
use Rattle.export.specs.Record.{record_on, record_at}
use Rattle.export.specs.Text.{text_found, text_at}
use Rattle.export.specs.FromList.{table_listed, record_listed, ask_record_in, text_listed, ask_text_in}
use Rattle.table_walk.proofs.AskedTable.{sound_asked}
use Rattle.table_walk.proofs.SameBlocks.{SameBlocks, MoreBlocks, InFile, some_block, first_same, held_same, held_more, part_same}
use Rattle.export.proofs.FoundRow.{row_read_same}
use Rattle.export.proofs.ListedRow.{ListedRow, listed_walked, then_listed}
use Rattle.run.specs.FromList.{NotWaiting, KeepsLists}
use Rattle.run.proofs.ListRead.{list_reads, record_answered, text_answered}

module _ {len : ℕ} {a b : Memory} (sound_a : Sound len a) (sound_b : Sound len b) (more : MoreBlocks len a b) where
  module _ (table : Table) (list : Places) (i : ℕ) where
    abbrev size : ℕ
    size = page_size a

    abbrev number : ℕ
    number = page_of size list i

    in_file : header_holds len (block_at a.image 0) ≡ true → linkable (len / size) number ≡ true → InFile len size number
    in_file h l = record { whole = (good_header len (block_at a.image 0) h).whole; inside = (inside_both (len / size) number l).1 }

    -- where the row is not waited for it is the same in both
    listed_by : (bit a.map 0 ≡ false → table_listed len b list i table ≡ table_listed len a list i table)
        → (bit a.map 0 ≡ true → header_holds len (block_at a.image 0) ≡ true → leb (length list) i ≡ false → linkable (len / size) number ≡ true
        → page_held size a.map number ≡ false → table_listed len b list i table ≡ table_listed len a list i table)
        → table_listed len b list i table ≡ table_listed len a list i table
    unfolding table_listed listed_row
    listed_by missing waits =
        on (bit a.map 0)
        (λ e. let both = more.bits 0 (some_block len a sound_a) e in
        let block = first_same more sound_a sound_b e in
        on (header_holds len (block_at a.image 0))
        (λ h. on (leb (length list) i) (λ l. rw (e, both, ← block, h, l) refl)
        (λ l. on (linkable (len / size) number)
        (λ k. on (page_held size a.map number)
        (λ p. rw (e, both, ← block, h, l, k, p, held_more more sound_a sound_b (in_file h k) p, part_same more sound_a sound_b (in_file h k) p) refl)
        (λ p. waits e h l k p))
        (λ k. rw (e, both, ← block, h, l, k) refl)))
        (λ h. rw (e, both, ← block, h) refl))
        missing

    listed_kept : NotWaiting (table_listed len a list i table) → table_listed len b list i table ≡ table_listed len a list i table
    unfolding table_listed listed_row
    listed_kept s = listed_by (λ e. absurd (rw e at s)) (λ e h l k p. absurd (rw (e, h, l, k, p) at s))

    pub listed_same : SameBlocks len a b → table_listed len b list i table ≡ table_listed len a list i table
    unfolding table_listed listed_row
    listed_same same =
        listed_by (λ e. rw (e, sym (same.bits 0 (some_block len a sound_a)) ∙ e) refl)
        (λ e h l k p. rw (
          e,
          more.bits 0 (some_block len a sound_a) e,
          ← first_same more sound_a sound_b e,
          h,
          l,
          k,
          p,
          sym (held_same same (in_file h k)) ∙ p,
        ) refl)

    then_answered : {B : Type 0} (f : Row → Answer (Found B)) (x : Answer (Found Row)) → NotWaiting (then_found x f) → NotWaiting x
    then_answered f (given (found row)) s = tt
    then_answered f (given (waiting page rows pages)) s = s
    then_answered f (refused r) s = tt

    -- the record and the string, as read in both
    records_same : (row : Row) → ListedRow len a table list i row → record_at a table row ≡ record_at b table row
    records_same row r =
        row_read_same sound_a sound_b more row (listed_walked len a table list i r)
        (λ size bytes. given (found (record_on row.page row.entry (read_record table bytes))))

    texts_same : (slot : ℕ) (row : Row) → ListedRow len a table list i row → text_at a table slot row ≡ text_at b table slot row
    texts_same slot row r =
        row_read_same sound_a sound_b more row (listed_walked len a table list i r) (λ size bytes. text_found row size (slot_text table bytes slot))

    record_by : table_listed len b list i table ≡ table_listed len a list i table → record_listed len b list i table ≡ record_listed len a list i table
    record_by e = rw e (sym (then_listed len a table list i (record_at a table) (record_at b table) records_same))

    text_by : (slot : ℕ) → table_listed len b list i table ≡ table_listed len a list i table
        → text_listed len b list i slot table ≡ text_listed len a list i slot table
    text_by slot e =
        on (ltb slot (slot_count table))
        (λ h. rw (h, e) (sym (then_listed len a table list i (text_at a table slot) (text_at b table slot) (texts_same slot)))) (λ h. rw h refl)

    pub record_kept : NotWaiting (record_listed len a list i table) → record_listed len b list i table ≡ record_listed len a list i table
    record_kept s = record_by (listed_kept (then_answered (record_at a table) (table_listed len a list i table) s))

    pub text_kept : (slot : ℕ) → NotWaiting (text_listed len a list i slot table) → text_listed len b list i slot table ≡ text_listed len a list i slot table
    text_kept slot s =
        on (ltb slot (slot_count table))
        (λ h. text_by slot (listed_kept (then_answered (text_at a table slot) (table_listed len a list i table) (rw h at s))))
        (λ h. rw h refl)

  -- the table that is asked for
  asked_kept : {B : Type 0} (number : ℕ) (f g : Table → Answer (Found B)) → ((table : Table) → NotWaiting (f table) → g table ≡ f table)
      → NotWaiting (and_then (asked_table len a number) f) → and_then (asked_table len b number) g ≡ and_then (asked_table len a number) f
  asked_kept {B} number f g same s =
      rw (sound_asked len b number sound_b, sound_asked len a number sound_a) (by (table_of number) (rw (sound_asked len a number sound_a) at s))
    where
      by : (x : Answer Table) → NotWaiting (and_then x f) → and_then x g ≡ and_then x f
      by (given table) t = same table t
      by (refused r) t = refl

  pub records_kept : (number : ℕ) (list : Places) (i : ℕ) → NotWaiting (ask_record_in len a number list i)
      → ask_record_in len b number list i ≡ ask_record_in len a number list i
  unfolding ask_record_in
  records_kept number list i =
      asked_kept number (record_listed len a list i) (record_listed len b list i) (λ table. record_kept table list i)

  pub texts_kept : (number : ℕ) (list : Places) (i slot : ℕ) → NotWaiting (ask_text_in len a number list i slot)
      → ask_text_in len b number list i slot ≡ ask_text_in len a number list i slot
  unfolding ask_text_in
  texts_kept number list i slot =
      asked_kept number (text_listed len a list i slot) (text_listed len b list i slot) (λ table. text_kept table list i slot)

  -- where the same blocks are held, every answer is the same
  module _ (same : SameBlocks len a b) where
    asked_same : {B : Type 0} (number : ℕ) (f g : Table → Answer B) → ((table : Table) → g table ≡ f table)
        → and_then (asked_table len b number) g ≡ and_then (asked_table len a number) f
    asked_same {B} number f g each = rw (sound_asked len b number sound_b, sound_asked len a number sound_a) (by (table_of number))
      where
        by : (x : Answer Table) → and_then x g ≡ and_then x f
        by (given table) = each table
        by (refused r) = refl

    pub record_in_same : (number : ℕ) (list : Places) (i : ℕ) → ask_record_in len b number list i ≡ ask_record_in len a number list i
    unfolding ask_record_in
    record_in_same number list i =
        asked_same number (record_listed len a list i) (record_listed len b list i) (λ table. record_by table list i (listed_same table list i same))

    pub text_in_same : (number : ℕ) (list : Places) (i slot : ℕ) → ask_text_in len b number list i slot ≡ ask_text_in len a number list i slot
    unfolding ask_text_in
    text_in_same number list i slot =
        asked_same number (text_listed len a list i slot) (text_listed len b list i slot) (λ table. text_by table list i slot (listed_same table list i same))

  pub lists_kept : KeepsLists len a b
  lists_kept =
      record {
        records = records_kept;
        texts = texts_kept;
        rows = λ number list. record {
          records = λ i h.
              let read = (list_reads len a number list).records i h in
              records_kept number (ask_rows len a number list).list i (rw read (record_answered len a number list i h)) ∙ read;
          texts = λ i slot h.
              let read = (list_reads len a number list).texts i slot h in
              texts_kept number (ask_rows len a number list).list i slot (rw read (text_answered len a number list i slot h)) ∙ read;
        };
      }
