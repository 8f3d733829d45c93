-- What a question keeps of an earlier one (specs/Later, specs/Final), where more blocks are held than before. Rules 8.10 to 8.12 and 8.22.
--     written_found, begins_later     the places that all rows writes are the rows found, and later walks begin with them
--     full_final                    an answer in full is given again, with the same list
--     settle_stays                  a row that was found and answered is answered again, unless the walk is refused
--     earlier_refused, refuses_all  a fault of the file's own is the walk's, and refuses every question on the table
--     keeps                         all of it but the answer in full
--     keeps_final                   and that
-- Rests on the growth of the walk (table_walk: TableWalk) and on the questions (export: Questions).
use mathlib.Core.Path.{◌≡◌, refl, sym, ap, ◌∙◌}
use mathlib.Core.Bool.{false, cond, not}
use mathlib.Core.List.{List, [], ◌∷◌, map}
use mathlib.Core.Logic.{◌⊎◌, inl, inr, ⊎_elim}
use mathlib.Core.Option.{Option, none, some}
use Prim.Native.Nat.{ℕ, zero, suc, ◌+◌, ◌<◌, ◌≤◌}
use native.Mathlib.Omega.{arith}
use lib.ListN.{length, take, drop, get_or, length-take, length-map}
use lib.Seq.{sets-eq, take-append_seam, take-length, get_or-take}
use lib.Dec.{ltb}
use borrow.Author.Tests.{ltb-true, ltb-false, lt-ltb}
use Rattle.lists.specs.Alias.{Places}
use Rattle.lists.specs.Write.{written}
use Rattle.refusal.specs.declared.Fault.{Fault}
use Rattle.refusal.specs.Fault.{fault}
use Rattle.refusal.specs.Answer.{Answer, given, refused, and_then, fault_in}
use Rattle.table.specs.declared.Table.{Table}
use Rattle.table.specs.Table.{table_of, slot_count}
use Rattle.page.specs.declared.Row.{Row}
use Rattle.page.specs.Found.{Rows, place_of, places, no_row}
use Rattle.intake.specs.Sound.{Sound}
use Rattle.intake.specs.Memory.{Memory}
use Rattle.chain.specs.Walk.{Walk, full, waiting}
use Rattle.chain.specs.Begins.{Begins}
use Rattle.chain.proofs.WalkGrows.{BeginsWith, Grows}
use Rattle.export.specs.OwnFault.{OwnFault}
use Rattle.table_walk.specs.Walk.{page_size, table_walk}
use Rattle.export.specs.Rows.{RowsOutcome, rows_answer, settle_rows, ask_rows}
use Rattle.chain.specs.Found as row
use Rattle.chain.specs.Found.{Found, found}
use Rattle.export.specs.Row.{settle_row}
use Rattle.export.specs.Record.{RecordOn, record_at, table_record, ask_record}
use Rattle.export.specs.Text.{TextPlace, text_at, table_text, ask_text}
use Rattle.run.specs.Call.{Question, all_rows, one_record, one_text, answer}
use Rattle.run.specs.Written.{places_written}
use Rattle.run.specs.Refusal.{fault_in_reply, table_asked}
use Rattle.run.specs.Final.{KeepsFull}
use Rattle.run.specs.Later.{RefusedByFile, StaysAnswered, Keeps}
use Rattle.lists.proofs.Choice.{on, never}
use Rattle.lists.proofs.Each.{Each, each_at}
use Rattle.table_walk.proofs.SameBlocks.{MoreBlocks}
use Rattle.table_walk.proofs.TableWalk.{table_walk_grows}
use Rattle.export.proofs.WalkFaults.{table_walk_own}
use Rattle.table_walk.proofs.EachFound.{EachFound}
use Rattle.export.proofs.Questions.{rows_asked, record_asked, text_asked, records_found_same, texts_found_same, sizes_same}
use Rattle.export.proofs.Questions.{TableRefused, own_rows, own_record, own_text, refused_rows, refused_record, refused_text}

-- the places of the rows that a walk found, where pages have size bytes
abbrev places_in : (size : ℕ) → Walk Rows → Option Places
places_in size (given (full rows pages)) = some (places size rows)
places_in size (given (waiting page rows pages)) = some (places size rows)
places_in size (refused f) = none

front_written : (list rows : Places) → length rows ≤ length list → take (length rows) (written list rows) ≡ rows
front_written list rows h = rw (sets-eq rows list 0 (omega arith)) (take-append_seam rows (drop (0 + length rows) list))

-- where 17 does not refuse, the places that are written are those of the rows found
written_found : (size : ℕ) (list these : Places) (w : Walk Rows) → places_written (settle_rows size list w) ≡ some these → places_in size w ≡ some these
written_found size list these = by
  where
    front : (rows : Rows) → ltb (length list) (length rows) ≡ false → some (take (length rows) (written list (places size rows))) ≡ some these
        → some (places size rows) ≡ some these
    front rows h e =
        let long = length-map rows (place_of size) in
        let fits = ltb-false (length list) (length rows) h in
        ap some (sym (rw long at (front_written list (places size rows) (omega arith)))) ∙ e

    by : (w : Walk Rows) → places_written (settle_rows size list w) ≡ some these → places_in size w ≡ some these
    by (given (full rows pages)) e = on (ltb (length list) (length rows)) (λ h. let z = rw h at e in never (cc)) (λ h. front rows h (rw h at e))
    by (given (waiting page rows pages)) e = on (ltb (length list) (length rows)) (λ h. let z = rw h at e in never (cc)) (λ h. front rows h (rw h at e))
    by (refused f) e = never (cc)

begins_self : {A : Type 0} (rows : List A) → Begins rows rows
unfolding Begins
begins_self rows = take-length rows

map_take : {A B : Type 0} (f : A → B) (n : ℕ) (xs : List A) → take n (map f xs) ≡ map f (take n xs)
map_take f zero xs = refl
map_take f (suc n) [] = refl
map_take {B = B} f (suc n) (x ∷ xs) = ap (λ (l : List B). f x ∷ l) (map_take f n xs)

-- the places of rows that stand in front stand in front
begins_places : (size : ℕ) (rows all : Rows) → Begins rows all → Begins (places size rows) (places size all)
unfolding Begins
begins_places size rows all e = rw (length-map rows (place_of size)) (map_take (place_of size) (length rows) all ∙ ap (places size) e)

begins_later : (size : ℕ) (v w : Walk Rows) (earlier later : Places) → Grows v w → places_in size v ≡ some earlier → places_in size w ≡ some later
    → Begins earlier later
begins_later size v w earlier later g e f = by v g e
  where
    with : (rows : Rows) (x : Walk Rows) → BeginsWith rows x → places_in size x ≡ some later → Begins (places size rows) later
    with rows (given (full all pages)) b q = let same : places size all ≡ later = cc in rw same at (begins_places size rows all b)
    with rows (given (waiting page all pages)) b q = let same : places size all ≡ later = cc in rw same at (begins_places size rows all b)
    with rows (refused r) b q = never (cc)

    by : (x : Walk Rows) → Grows x w → places_in size x ≡ some earlier → Begins earlier later
    by (given (full rows pages)) h q =
        let same : earlier ≡ later = cc (ap (places_in size) h) in
        rw same (begins_self later)
    by (given (waiting page rows pages)) h q = let same : places size rows ≡ earlier = cc in rw same at (with rows w h f)
    by (refused r) h q = never (cc)

-- an answer in full is that of a full walk, which stays
full_final : (size : ℕ) (list : Places) (v w : Walk Rows) {n p : ℕ} → Grows v w → rows_answer list v ≡ given (full n p)
    → settle_rows size list w ≡ settle_rows size list v
full_final size list (given (full rows pages)) w g e = ap (settle_rows size list) g
full_final size list (given (waiting page rows pages)) w g e =
    on (ltb (length list) (length rows)) (λ h. let z = rw h at e in never (cc)) (λ h. let z = rw h at e in never (cc))
full_final size list (refused f) w g e = never (cc)

-- row k of all rows, where these rows stand in front
begins_row : (rows all : Rows) (k : ℕ) → Begins rows all → k < length rows → (k < length all) × (get_or all k no_row ≡ get_or rows k no_row)
unfolding Begins
begins_row rows all k b h = (
  omega (arith, length-take (length rows) all, ap length b),
  sym (get_or-take (length rows) all k no_row h) ∙ ap (λ (l : Rows). get_or l k no_row) b,
)

refused_by : {A : Type 0} (f : Fault) → OwnFault f → RefusedByFile {A = A} (refused f)
refused_by f own = record { reason = f; own = own; refusal = refl }

-- f and g answer for a row in the earlier and in the later memory
module _ {A : Type 0} (f g : Row → Answer (Found A)) (k : ℕ) (x : A) where
  abbrev Same : Row → Type 0
  Same row = f row ≡ g row

  -- row k, which was found and answered
  module _ (rows : Rows) (each : Each Same rows) (h : k < length rows) (e : f (get_or rows k no_row) ≡ given (found x)) where
    found_again : (all : Rows) (other : Answer (Found A)) → Begins rows all → cond (not (ltb k (length all))) other (g (get_or all k no_row)) ≡ given (found x)
    found_again all other b =
        let row = begins_row rows all k b h in
        rw (lt-ltb k (length all) row.0, row.1) (sym (each_at Same rows k no_row each h) ∙ e)

    answered_again : (w : Walk Rows) → BeginsWith rows w → ((r : Fault) → w ≡ refused r → OwnFault r) → StaysAnswered x (settle_row g k w)
    answered_again (given (full all pages)) b own = inl (found_again all (refused (fault 18 0)) b)
    answered_again (given (waiting page all pages)) b own = inl (found_again all (given (row.waiting page (length all) pages)) b)
    answered_again (refused r) b own = inr (refused_by r (own r refl))

  settle_stays : (w : Walk Rows) → ((r : Fault) → w ≡ refused r → OwnFault r) → (v : Walk Rows) → Grows v w → EachFound Same v
      → settle_row f k v ≡ given (found x) → StaysAnswered x (settle_row g k w)
  settle_stays w own = by
    where
      stays : (rows : Rows) (other : Answer (Found A)) → Each Same rows → BeginsWith rows w → (other ≡ given (found x) → ⊥)
          → cond (not (ltb k (length rows))) other (f (get_or rows k no_row)) ≡ given (found x)
          → StaysAnswered x (settle_row g k w)
      stays rows other each b no_answer e =
          on (ltb k (length rows)) (λ h. answered_again rows each (ltb-true k (length rows) h) (rw h at e) w b own) (λ h. absurd (no_answer (rw h at e)))

      by : (v : Walk Rows) → Grows v w → EachFound Same v → settle_row f k v ≡ given (found x) → StaysAnswered x (settle_row g k w)
      by (given (full rows pages)) grows each e = stays rows (refused (fault 18 0)) each (rw grows (begins_self rows)) (λ z. never (cc)) e
      by (given (waiting page rows pages)) grows each e =
          stays rows (given (row.waiting page (length rows) pages)) each grows (λ z. never (cc)) e
      by (refused r) grows each e = never (cc)

fault_refused : {A : Type 0} (a : Answer A) (f : Fault) → fault_in a ≡ some f → a ≡ refused f
fault_refused (given x) f e = never (cc)
fault_refused (refused g) f e = cc

module _ {len : ℕ} {a b : Memory}
    (sound_a : Sound len a) (sound_b : Sound len b) (more : MoreBlocks len a b) where
  grows : (table : Table) → Grows (table_walk len a table) (table_walk len b table)
  grows table = table_walk_grows sound_a sound_b table more

  keeps_rows : (number : ℕ) (list other earlier later : Places)
      → places_written (ask_rows len a number list) ≡ some earlier → places_written (ask_rows len b number other) ≡ some later → Begins earlier later
  keeps_rows number list other earlier later e f =
      by (table_of number) (rw (rows_asked len a sound_a number list) at e) (rw (rows_asked len b sound_b number other) at f)
    where
      by : (t : Answer Table) → places_written (settle_rows (page_size a) list (and_then t (table_walk len a))) ≡ some earlier
          → places_written (settle_rows (page_size b) other (and_then t (table_walk len b))) ≡ some later → Begins earlier later
      by (given table) p q =
          let size = page_size b in
          begins_later size (table_walk len a table) (table_walk len b table) earlier later (grows table)
          (written_found size list earlier (table_walk len a table) (sym (ap places_written (sizes_same sound_a sound_b more table list)) ∙ p))
          (written_found size other later (table_walk len b table) q)
      by (refused r) p q = never (cc)

  keeps_full : (number : ℕ) (list : Places) {n p : ℕ} → (ask_rows len a number list).answer ≡ given (full n p)
      → ask_rows len b number list ≡ ask_rows len a number list
  keeps_full number list {n} {p} e =
      rows_asked len b sound_b number list ∙ by (table_of number) (rw (rows_asked len a sound_a number list) at e) ∙ sym (rows_asked len a sound_a number list)
    where
      by : (t : Answer Table) → rows_answer list (and_then t (table_walk len a)) ≡ given (full n p)
          → settle_rows (page_size b) list (and_then t (table_walk len b)) ≡ settle_rows (page_size a) list (and_then t (table_walk len a))
      by (given table) q =
          full_final (page_size b) list (table_walk len a table) (table_walk len b table) (grows table) q ∙ sym (sizes_same sound_a sound_b more table list)
      by (refused r) q = never (cc)

  keeps_record : (number k : ℕ) (x : RecordOn) → ask_record len a number k ≡ given (found x) → StaysAnswered x (ask_record len b number k)
  keeps_record number k x e = rw (record_asked len b sound_b number k) (by (table_of number) (sym (record_asked len a sound_a number k) ∙ e))
    where
      by : (t : Answer Table) → and_then t (table_record len a k) ≡ given (found x) → StaysAnswered x (and_then t (table_record len b k))
      by (given table) p =
          settle_stays (record_at a table) (record_at b table) k x (table_walk len b table) (table_walk_own len b table) (table_walk len a table)
          (grows table)
          (records_found_same sound_a sound_b more table)
          p
      by (refused r) p = never (cc)

  keeps_text : (number k slot : ℕ) (x : TextPlace) → ask_text len a number k slot ≡ given (found x) → StaysAnswered x (ask_text len b number k slot)
  keeps_text number k slot x e = rw (text_asked len b sound_b number k slot) (by (table_of number) (sym (text_asked len a sound_a number k slot) ∙ e))
    where
      by : (t : Answer Table) → and_then t (table_text len a k slot) ≡ given (found x) → StaysAnswered x (and_then t (table_text len b k slot))
      by (given table) p =
          on (ltb slot (slot_count table))
          (λ h. rw h
          (settle_stays (text_at a table slot) (text_at b table slot) k x (table_walk len b table) (table_walk_own len b table) (table_walk len a table)
          (grows table)
          (texts_found_same sound_a sound_b more table slot)
          (rw h at p)))
          (λ h. let z = rw h at p in never (cc))
      by (refused r) p = never (cc)

  -- a refusal by a fault of the file's own is that of the walk
  earlier_refused : (q : Question) (f : Fault) → fault_in_reply (answer len a q) ≡ some f → OwnFault f → TableRefused len a (table_asked q) f
  earlier_refused (all_rows number list) f e own = own_rows len a sound_a number f list (fault_refused (ask_rows len a number list).answer f e) own
  earlier_refused (one_record number k) f e own = own_record len a sound_a number f k (fault_refused (ask_record len a number k) f e) own
  earlier_refused (one_text number k slot) f e own = own_text len a sound_a number f k slot (fault_refused (ask_text len a number k slot) f e) own

  later_refused : {number : ℕ} {f : Fault} → TableRefused len a number f → TableRefused len b number f
  later_refused t = record { table = t.table; asked = t.asked; walked = rw t.walked at (grows t.table) }

  refuses_all : (q : Question) (f : Fault) → TableRefused len b (table_asked q) f
      → (fault_in_reply (answer len b q) ≡ some f) ⊎ (fault_in_reply (answer len b q) ≡ some (fault 19 0))
  refuses_all (all_rows number list) f t = inl (ap (λ (o : RowsOutcome). fault_in o.answer) (refused_rows len b sound_b number f t list))
  refuses_all (one_record number k) f t = inl (ap fault_in (refused_record len b sound_b number f t k))
  refuses_all (one_text number k slot) f t = ⊎_elim (λ e. inl (ap fault_in e)) (λ e. inr (ap fault_in e)) (refused_text len b sound_b number f t k slot)

  pub keeps_final : KeepsFull len a b
  keeps_final = record { final = keeps_full }

  pub keeps : Keeps len a b
  keeps =
      record {
        rows = keeps_rows;
        records = keeps_record;
        texts = keeps_text;
        faults = λ first second f same e own. refuses_all second f (rw same at (later_refused (earlier_refused first f e own)));
      }
