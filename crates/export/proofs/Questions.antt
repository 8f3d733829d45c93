-- The three questions (specs/Rows, Record, Text) over a memory that refusals 1 to 4 do not apply to.
--     rows_asked, record_asked, text_asked              the question from the table that the number names
--     records_found_same, texts_found_same              with more blocks held, what is read from a found row is the same
--     ask_rows_same, ask_record_same, ask_text_same     memories with the same held blocks give the same answers, and leave the same list
--     own_rows, own_record, own_text                    where a question is refused by a fault of the file's own, the walk of its table is
--     refused_rows, refused_record, refused_text        where the walk is refused, so is the question, but for 19
-- Rests on the walk (table_walk: TableWalk) and on the rows that it finds (proofs/FoundRow).
use mathlib.Core.Path.{◌≡◌, refl, sym, ap, ◌∙◌}
use mathlib.Core.Bool.{Bool, true, false, cond, not}
use mathlib.Core.Logic.{◌⊎◌, inl, inr}
use mathlib.Core.Option.{none}
use Prim.Native.Nat.{ℕ, ◌<◌}
use native.Mathlib.Omega.{arith}
use lib.ListN.{length, get_or}
use lib.Dec.{ltb, eqb, leb-suc-zero}
use borrow.Author.Tests.{ltb-true, not-false}
use Rattle.lists.specs.Alias.{Bytes, Places}
use Rattle.refusal.specs.declared.Fault.{Fault}
use Rattle.refusal.specs.Fault.{fault}
use Rattle.refusal.specs.Answer.{Answer, given, refused, and_then, fault_in}
use Rattle.text.specs.Text.{TextAt}
use Rattle.table.specs.declared.Table.{Table}
use Rattle.table.specs.declared.Table.TheVariants.{Tracks, Genres, Artists, Albums, Labels, Keys, Colors, PlaylistTree, PlaylistEntries, Artwork}
use Rattle.table.specs.Table.{table_of, slot_count}
use Rattle.row.specs.Slot.{slot_text}
use Rattle.row.specs.Record.{read_record}
use Rattle.page.specs.declared.Row.{Row}
use Rattle.page.specs.Found.{Rows, no_row}
use Rattle.bitmap.specs.Bit.{bit}
use Rattle.directory.specs.Header.{len_page}
use Rattle.intake.specs.Sound.{Sound}
use Rattle.intake.specs.Memory.{Memory}
use Rattle.chain.specs.Walk.{Progress, Walk, full, waiting}
use Rattle.export.specs.OwnFault.{OwnFault}
use Rattle.table_walk.specs.Walk.{page_size, table_walk}
use Rattle.export.specs.Rows.{rows_outcome, rows_answer, settle_rows, ask_rows}
use Rattle.chain.specs.Found as found
use Rattle.export.specs.Row.{settle_row, row_part}
use Rattle.export.specs.Record.{record_on, record_at, table_record, ask_record}
use Rattle.export.specs.Text.{text_found, text_at, table_text, ask_text}
use Rattle.lists.proofs.Choice.{on, never, cond_agree}
use Rattle.lists.proofs.Each.{Each, each_at}
use Rattle.table_walk.proofs.AskedTable.{sound_asked}
use Rattle.table_walk.proofs.SameBlocks.{SameBlocks, MoreBlocks, same_more, first_same}
use Rattle.table_walk.proofs.TableWalk.{table_walk_same}
use Rattle.table_walk.proofs.EachFound.{EachFound, found_of}
use Rattle.export.proofs.FoundRow.{FoundRow, rows_found, row_read_same, row_text}

-- a question that refusals 1 to 4 do not apply to
module _ (len : ℕ) (m : Memory) (sound : Sound len m) (number : ℕ) where
  pub rows_asked : (list : Places) → ask_rows len m number list ≡ settle_rows (page_size m) list (and_then (table_of number) (table_walk len m))
  unfolding ask_rows
  rows_asked list = rw (sound_asked len m number sound)

  pub record_asked : (k : ℕ) → ask_record len m number k ≡ and_then (table_of number) (table_record len m k)
  unfolding ask_record
  record_asked k = rw (sound_asked len m number sound)

  pub text_asked : (k slot : ℕ) → ask_text len m number k slot ≡ and_then (table_of number) (table_text len m k slot)
  unfolding ask_text
  text_asked k slot = rw (sound_asked len m number sound)

then_agree : {A : Type 0} (t : Answer Table) {f g : Table → Answer A} → ((table : Table) → f table ≡ g table) → and_then t f ≡ and_then t g
then_agree (given table) e = e table
then_agree (refused f) e = refl

-- the size of pages counts with block 0 only: without it there is no place to write
pub by_size : (len : ℕ) (m : Memory) (table : Table) (list : Places) {size : ℕ} → (bit m.map 0 ≡ true → page_size m ≡ size)
    → settle_rows (page_size m) list (table_walk len m table) ≡ settle_rows size list (table_walk len m table)
unfolding table_walk
by_size len m table list same =
    on (bit m.map 0) (λ h. ap (λ (size : ℕ). settle_rows size list (table_walk len m table)) (same h)) (λ h. rw (h, leb-suc-zero (length list)))

-- two ways to answer for a row that agree on each row found
pub settle_same : {A : Type 0} (f g : Row → Answer (found.Found A)) (k : ℕ) (w : Walk Rows) → EachFound (λ (row : Row). f row ≡ g row) w
    → settle_row f k w ≡ settle_row g k w
settle_same {A} f g k = by
  where
    chosen : (rows : Rows) (other : Answer (found.Found A)) → Each (λ (row : Row). f row ≡ g row) rows
        → cond (not (ltb k (length rows))) other (f (get_or rows k no_row)) ≡ cond (not (ltb k (length rows))) other (g (get_or rows k no_row))
    chosen rows other e =
        cond_agree (not (ltb k (length rows))) (λ _. refl)
        (λ h. each_at (λ (row : Row). f row ≡ g row) rows k no_row e (ltb-true k (length rows) (not-false (ltb k (length rows)) h)))

    by : (w : Walk Rows) → EachFound (λ (row : Row). f row ≡ g row) w → settle_row f k w ≡ settle_row g k w
    by (given (full rows pages)) e = chosen rows (refused (fault 18 0)) e
    by (given (waiting page rows pages)) e = chosen rows (given (found.waiting page (length rows) pages)) e
    by (refused r) e = refl

module _ {len : ℕ} {a b : Memory} (sound_a : Sound len a) (sound_b : Sound len b) where
  module _ (more : MoreBlocks len a b) (table : Table) where
    -- an answer by the row, what is read from it and the size of its page
    rows_read_same : {A : Type 0} (read : (row : Row) (size : ℕ) (bytes : Bytes) → A)
        → EachFound
        (λ (row : Row). read row (page_size a) (row_part (page_size a) a.image row) ≡ read row (page_size b) (row_part (page_size b) b.image row))
        (table_walk len a table)
    rows_read_same read =
        found_of (FoundRow len a table) _ (table_walk len a table) (λ row r. row_read_same sound_a sound_b more row r.page (read row)) (rows_found len a table)

    pub records_found_same : EachFound (λ (row : Row). record_at a table row ≡ record_at b table row) (table_walk len a table)
    records_found_same = rows_read_same (λ row size bytes. given (found.found (record_on row.page row.entry (read_record table bytes))))

    pub texts_found_same : (slot : ℕ) → EachFound (λ (row : Row). text_at a table slot row ≡ text_at b table slot row) (table_walk len a table)
    texts_found_same slot = rows_read_same (λ row size bytes. text_found row size (slot_text table bytes slot))

    pub sizes_same : (list : Places) → settle_rows (page_size a) list (table_walk len a table) ≡ settle_rows (page_size b) list (table_walk len a table)
    sizes_same list = by_size len a table list (λ h. ap len_page (first_same more sound_a sound_b h))

  module _ (same : SameBlocks len a b) where
    walks : (table : Table) → table_walk len a table ≡ table_walk len b table
    walks table = table_walk_same sound_a sound_b table same

    settled : {A : Type 0} (table : Table) (f g : Row → Answer (found.Found A)) (k : ℕ) → EachFound (λ (row : Row). f row ≡ g row) (table_walk len a table)
        → settle_row f k (table_walk len a table) ≡ settle_row g k (table_walk len b table)
    settled table f g k e = settle_same f g k (table_walk len a table) e ∙ ap (settle_row g k) (walks table)

    pub ask_rows_same : (number : ℕ) (list : Places) → ask_rows len a number list ≡ ask_rows len b number list
    ask_rows_same number list =
        rows_asked len a sound_a number list ∙ by (table_of number) ∙ sym (rows_asked len b sound_b number list)
      where
        by : (t : Answer Table) → settle_rows (page_size a) list (and_then t (table_walk len a)) ≡ settle_rows (page_size b) list (and_then t (table_walk len b))
        by (given table) = sizes_same (same_more same) table list ∙ ap (settle_rows (page_size b) list) (walks table)
        by (refused f) = refl

    pub ask_record_same : (number k : ℕ) → ask_record len a number k ≡ ask_record len b number k
    ask_record_same number k =
        record_asked len a sound_a number k
        ∙ then_agree (table_of number) (λ table. settled table (record_at a table) (record_at b table) k (records_found_same (same_more same) table))
        ∙ sym (record_asked len b sound_b number k)

    pub ask_text_same : (number k slot : ℕ) → ask_text len a number k slot ≡ ask_text len b number k slot
    ask_text_same number k slot =
        text_asked len a sound_a number k slot
        ∙ then_agree (table_of number) (λ table. cond_agree (not (ltb slot (slot_count table))) (λ _. refl)
        (λ _. settled table (text_at a table slot) (text_at b table slot) k (texts_found_same (same_more same) table slot)))
        ∙ sym (text_asked len b sound_b number k slot)

-- a table that there is not is 8
abbrev Eight : Answer Table → Type 0
Eight (given table) = Unit {0}
Eight (refused f) = f ≡ fault 8 0

or_eight : (test : Bool) (table : Table) (later : Answer Table) → Eight later → Eight (cond test (given table) later)
or_eight true table later e = tt
or_eight false table later e = e

table_eight : (number : ℕ) → Eight (table_of number)
unfolding table_of
table_eight n =
    or_eight (eqb n 0) Tracks _ (or_eight (eqb n 1) Genres _ (or_eight (eqb n 2) Artists _ (or_eight (eqb n 3) Albums _
    (or_eight (eqb n 4) Labels _ (or_eight (eqb n 5) Keys _ (or_eight (eqb n 6) Colors _ (or_eight (eqb n 7) PlaylistTree _
    (or_eight (eqb n 8) PlaylistEntries _ (or_eight (eqb n 13) Artwork _ refl)))))))))

-- a number below 9, or above 16 and below 25
not_own : {A : Type 0} (n value : ℕ) (f : Fault) → fault n value ≡ f → OwnFault f → (n < 9) ⊎ ((16 < n) × (n < 25)) → A
not_own n value f e own other = by own other
  where
    same : n ≡ f.number
    same = ap (λ (g : Fault). g.number) e

    by : {B : Type 0} → OwnFault f → (n < 9) ⊎ ((16 < n) × (n < 25)) → B
    by (inl k) (inl h) = absurd (omega (arith, same, k.0))
    by (inl k) (inr h) = absurd (omega (arith, same, k.1, h.0))
    by (inr k) (inl h) = absurd (omega (arith, same, k))
    by (inr k) (inr h) = absurd (omega (arith, same, k, h.1))

-- the walk of the table that is asked for is refused by f
pub record TableRefused (len : ℕ) (m : Memory) (number : ℕ) (f : Fault) : Type 0 where
  pub table : Table
  pub asked : table_of number ≡ given table
  pub walked : table_walk len m table ≡ refused f

-- 17 is none of the file's own faults
rows_own : (list : Places) (f : Fault) → OwnFault f → (w : Walk Rows) → rows_answer list w ≡ refused f → w ≡ refused f
rows_own list f own = by
  where
    short : {A : Type 0} (n : ℕ) (progress : Progress ℕ) → cond (ltb (length list) n) (refused (fault 17 n)) (given progress) ≡ refused f → A
    short n progress e =
        on (ltb (length list) n) (λ h. let z = rw h at e in not_own 17 n f (cc) own (inr (omega arith, omega arith))) (λ h. never (cc (rw h at e)))

    by : (w : Walk Rows) → rows_answer list w ≡ refused f → w ≡ refused f
    by (given (full rows pages)) e = short (length rows) (full (length rows) pages) e
    by (given (waiting page rows pages)) e = short (length rows) (waiting page (length rows) pages) e
    by (refused g) e = cc

-- where a found row is never refused, a refusal by the file's own is the walk's: 18 is none of them
settle_own : {A : Type 0} (answer : Row → Answer (found.Found A)) (k : ℕ) (f : Fault) → OwnFault f
    → (w : Walk Rows) → EachFound (λ (row : Row). answer row ≡ refused f → ⊥) w → settle_row answer k w ≡ refused f → w ≡ refused f
settle_own {A} answer k f own = by
  where
    Given : Row → Type 0
    Given row = answer row ≡ refused f → ⊥

    chosen : {B : Type 0} (rows : Rows) (other : Answer (found.Found A)) → Each Given rows → (other ≡ refused f → B)
        → cond (not (ltb k (length rows))) other (answer (get_or rows k no_row)) ≡ refused f → B
    chosen rows other each otherwise e =
        on (ltb k (length rows)) (λ h. absurd (each_at Given rows k no_row each (ltb-true k (length rows) h) (rw h at e))) (λ h. otherwise (rw h at e))

    by : (w : Walk Rows) → EachFound Given w → settle_row answer k w ≡ refused f → w ≡ refused f
    by (given (full rows pages)) each e = chosen rows (refused (fault 18 0)) each (λ z. not_own 18 0 f (cc) own (inr (omega arith, omega arith))) e
    by (given (waiting page rows pages)) each e = chosen rows (given (found.waiting page (length rows) pages)) each (λ z. never (cc)) e
    by (refused g) each e = cc

text_given : (row : Row) (size : ℕ) (text : Answer TextAt) (f : Fault) → fault_in text ≡ none → text_found row size text ≡ refused f → ⊥
text_given row size (given t) f e r = never (cc)
text_given row size (refused g) f e r = never (cc)

module _ (len : ℕ) (m : Memory) (sound : Sound len m) (number : ℕ) (f : Fault) where
  -- what a table's question is refused by, its walk is: 8 is none of the file's own faults
  asked_own : {A : Type 0} (ask : Table → Answer A) → ((table : Table) → ask table ≡ refused f → table_walk len m table ≡ refused f) → OwnFault f
      → and_then (table_of number) ask ≡ refused f → TableRefused len m number f
  asked_own {A} ask walked own e = by (table_of number) refl (table_eight number) e
    where
      by : (t : Answer Table) → table_of number ≡ t → Eight t → and_then t ask ≡ refused f → TableRefused len m number f
      by (given table) q eight r = record { table = table; asked = q; walked = walked table r }
      by (refused g) q eight r = not_own 8 0 f (cc) own (inl (omega arith))

  found_given : {A : Type 0} (table : Table) (answer : Row → Answer (found.Found A)) → ((row : Row) → FoundRow len m table row → answer row ≡ refused f → ⊥)
      → EachFound (λ (row : Row). answer row ≡ refused f → ⊥) (table_walk len m table)
  found_given table answer each =
      found_of (FoundRow len m table) (λ (row : Row). answer row ≡ refused f → ⊥) (table_walk len m table) each (rows_found len m table)

  pub own_rows : (list : Places) → (ask_rows len m number list).answer ≡ refused f → OwnFault f → TableRefused len m number f
  own_rows list e own =
      asked_own (table_walk len m) (λ table r. r) own
      (rows_own list f own (and_then (table_of number) (table_walk len m)) (rw (rows_asked len m sound number list) at e))

  pub own_record : (k : ℕ) → ask_record len m number k ≡ refused f → OwnFault f → TableRefused len m number f
  own_record k e own =
      asked_own (table_record len m k)
      (λ table r. settle_own (record_at m table) k f own (table_walk len m table) (found_given table (record_at m table) (λ row known z. never (cc))) r)
      own (sym (record_asked len m sound number k) ∙ e)

  pub own_text : (k slot : ℕ) → ask_text len m number k slot ≡ refused f → OwnFault f → TableRefused len m number f
  own_text k slot e own = asked_own (table_text len m k slot) walked own (sym (text_asked len m sound number k slot) ∙ e)
    where
      good : (table : Table) → slot < slot_count table → (row : Row) → FoundRow len m table row → text_at m table slot row ≡ refused f → ⊥
      good table h row known z =
          text_given row (page_size m) (slot_text table (row_part (page_size m) m.image row) slot) f (row_text known slot h) z

      walked : (table : Table) → table_text len m k slot table ≡ refused f → table_walk len m table ≡ refused f
      walked table r =
          on (ltb slot (slot_count table))
          (λ h. settle_own (text_at m table slot) k f own (table_walk len m table)
          (found_given table (text_at m table slot) (good table (ltb-true slot (slot_count table) h))) (rw h at r))
          (λ h. let z = rw h at r in not_own 19 0 f (cc) own (inr (omega arith, omega arith)))

  module _ (t : TableRefused len m number f) where
    pub refused_rows : (list : Places) → ask_rows len m number list ≡ rows_outcome (refused f) list
    refused_rows list = rows_asked len m sound number list ∙ rw (t.asked, t.walked) refl

    pub refused_record : (k : ℕ) → ask_record len m number k ≡ refused f
    refused_record k = record_asked len m sound number k ∙ rw (t.asked, t.walked) refl

    pub refused_text : (k slot : ℕ) → (ask_text len m number k slot ≡ refused f) ⊎ (ask_text len m number k slot ≡ refused (fault 19 0))
    refused_text k slot =
        on (ltb slot (slot_count t.table))
        (λ h. inl (text_asked len m sound number k slot ∙ rw (t.asked, h, t.walked) refl))
        (λ h. inr (text_asked len m sound number k slot ∙ rw (t.asked, h) refl))
