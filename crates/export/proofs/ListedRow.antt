-- The row that an element of a list names (specs/FromList).
--     ListedRow, listed_found, found_listed    what is known of a row that is found so, and the other way round
--     listed_page, listed_place, listed_walked     it is on the page of the element's place and starts there, and the page is held
--     then_listed                              answers that agree wherever it is found
--     rows_ranked                              each row that the walk for a table finds is the row of its rank on its page
--     row_listed                               so a list that begins with the rows found names them
-- Rests on the ranks of the rows of a chain (listed: RowsRanked) and on the rows found (proofs/FoundRow).
use mathlib.Core.Path.{◌≡◌, refl, sym, ap, ◌∙◌}
use mathlib.Core.Bool.{true, false}
use Prim.Native.Nat.{ℕ, ◌/◌, ◌%◌, ◌<◌, ◌≤◌}
use native.Mathlib.Nat.{div-add-mod'}
use native.Mathlib.Omega.{arith}
use lib.ListN.{length, get_or}
use lib.Dec.{leb}
use borrow.Author.Tests.{lt-leb, leb-false}
use Rattle.lists.specs.Alias.{Places}
use Rattle.lists.proofs.Choice.{on, never}
use Rattle.format.specs.Place.{linkable}
use Rattle.refusal.specs.Answer.{Answer, given, refused, and_then}
use Rattle.table.specs.declared.Table.{Table}
use Rattle.page.specs.declared.Row.{Row}
use Rattle.page.specs.Found.{Rows, place_of, places, no_row}
use Rattle.page.proofs.OneRowAnswer.{row_read, read_row_good, start_good, row_here}
use Rattle.bitmap.specs.Bit.{bit}
use Rattle.intake.specs.Sound.{Sound}
use Rattle.intake.specs.Memory.{Memory, block_at}
use Rattle.directory.specs.Header.{header_holds}
use Rattle.directory.proofs.GoodHeader.{good_header}
use Rattle.directory.proofs.ChainAnswer.{chain_given}
use Rattle.chain.specs.Found.{Found, found, waiting, then_found}
use Rattle.chain.specs.Held.{page_held}
use Rattle.chain.specs.File.{page_part}
use Rattle.chain.proofs.Linkable.{inside_both, both_inside}
use Rattle.listed.specs.Rank.{page_of, run_before, rank}
use Rattle.listed.specs.Listed.{read_element, listed_row}
use Rattle.listed.proofs.RunsInRows.{run_front}
use Rattle.listed.proofs.RowsRanked.{RowThere, RowsThere, rows_there}
use Rattle.table_walk.specs.Walk.{page_size, table_walk}
use Rattle.export.specs.Row.{row_part}
use Rattle.export.specs.FromList.{table_listed}
use Rattle.table_walk.proofs.TableWalk.{table_walk_holds}
use Rattle.table_walk.proofs.PageWalked.{PageWalked}
use Rattle.export.proofs.FoundRow.{FoundRow}
use Rattle.export.proofs.TablePlaces.{allowed_file}

pub record ListedRow (len : ℕ) (m : Memory) (table : Table) (list : Places) (i : ℕ) (row : Row) : Type 0 where
  pub element : i < length list
  pub page : PageWalked len m (page_of (page_size m) list i)
  pub read : read_element (page_size m) table m.image list i ≡ given row

module _ (len : ℕ) (m : Memory) (table : Table) (list : Places) (i : ℕ) where
  abbrev size : ℕ
  size = page_size m

  abbrev number : ℕ
  number = page_of size list i

  -- element i is read from this page
  row_there : (row : Row) → bit m.map 0 ≡ true → header_holds len (block_at m.image 0) ≡ true → leb (length list) i ≡ false
      → linkable (len / size) number ≡ true → page_held size m.map number ≡ true → (answer : Answer Row) → read_element size table m.image list i ≡ answer
      → and_then answer (λ own. given (found own)) ≡ given (found row) → ListedRow len m table list i row
  row_there row b h e l p (given own) r q =
      let same : own ≡ row = cc in
      let inside = inside_both (len / size) number l in
      record {
        element = leb-false (length list) i e;
        page = record {
          first = b;
          header = h;
          later = inside.0;
          inside = record { whole = (good_header len (block_at m.image 0) h).whole; inside = inside.1 };
          held = p;
        };
        read = r ∙ ap given same;
      }
  row_there row b h e l p (refused f) r q = never (cc)

  pub listed_found : (row : Row) → table_listed len m list i table ≡ given (found row) → ListedRow len m table list i row
  unfolding table_listed listed_row
  listed_found row q =
      on (bit m.map 0)
      (λ b. on (header_holds len (block_at m.image 0))
      (λ h. on (leb (length list) i) (λ e. never (cc (rw (b, h, e) at q)))
      (λ e. on (linkable (len / size) number)
      (λ l. on (page_held size m.map number)
      (λ p. row_there row b h e l p (read_element size table m.image list i) refl (rw (b, h, e, l, p) at q))
      (λ p. never (cc (rw (b, h, e, l, p) at q))))
      (λ l. never (cc (rw (b, h, e, l) at q)))))
      (λ h. never (cc (rw (b, h) at q))))
      (λ b. never (cc (rw b at q)))

  pub found_listed : {row : Row} → ListedRow len m table list i row → table_listed len m list i table ≡ given (found row)
  unfolding table_listed listed_row
  found_listed {row} r =
      let linked = both_inside (len / size) number r.page.later r.page.inside.inside in
      rw (r.page.first, r.page.header, lt-leb (length list) i r.element, linked, r.page.held, r.read)

  -- its page is the one that the element's place lies on
  pub listed_page : {row : Row} → ListedRow len m table list i row → row.page ≡ number
  listed_page {row} r =
      let page = page_part size m.image number in
      ap (λ (own : Row). own.page) (row_read number table page (get_or list i 0 % size) (rank size list i) row r.read).found

  -- and the row starts at that place
  pub listed_place : {row : Row} → ListedRow len m table list i row → place_of size row ≡ get_or list i 0
  listed_place {row} r =
      let page = page_part size m.image number in
      let start = get_or list i 0 % size in
      let read = row_read number table page start (rank size list i) row r.read in
      let begins : row.start ≡ start = ap (λ (own : Row). own.start) read.found ∙ (row_here page start (rank size list i) read.here).1 in
      rw (listed_page r, begins) (div-add-mod' (get_or list i 0) size)

  pub listed_walked : {row : Row} → ListedRow len m table list i row → PageWalked len m row.page
  listed_walked r = rw (listed_page r) r.page

  -- two answers about the row that agree wherever it is found
  pub then_listed : {A : Type 0} (f g : Row → Answer (Found A)) → ((row : Row) → ListedRow len m table list i row → f row ≡ g row)
      → then_found (table_listed len m list i table) f ≡ then_found (table_listed len m list i table) g
  then_listed {A} f g same = by (table_listed len m list i table) refl
    where
      by : (x : Answer (Found Row)) → table_listed len m list i table ≡ x → then_found x f ≡ then_found x g
      by (given (found row)) q = same row (listed_found row q)
      by (given (waiting page rows pages)) q = refl
      by (refused r) q = refl

module _ (len : ℕ) (m : Memory) (table : Table) (sound : Sound len m) where
  pub rows_ranked : RowsThere (page_size m) m.image (table_walk len m table)
  rows_ranked =
      table_walk_holds len m table (RowsThere (page_size m) m.image) (λ i h. absurd (omega arith)) (λ _ _. tt)
      (λ c b q. let known = chain_given len (block_at m.image 0) table c q in
      rw (← known.linked.len_page) (rows_there (allowed_file len m table sound c known) table m.map))

  pub row_listed : (rows : Rows) (list : Places) (i : ℕ) → i < length rows → length rows ≤ length list
      → ((j : ℕ) → j < length rows → get_or list j 0 ≡ get_or (places (page_size m) rows) j 0) → FoundRow len m table (get_or rows i no_row)
      → RowThere (page_size m) m.image rows i → table_listed len m list i table ≡ given (found (get_or rows i no_row))
  unfolding rank row_part
  row_listed rows list i h long same r t =
      let size = page_size m in
      let all = places size rows in
      let number = page_of size all i in
      let page = page_part size m.image number in
      let start = get_or all i 0 % size in
      let on = ap (λ (row : Row). row.page) t.same in
      let at = (row_here page start (rank size all i) t.there).1 in
      let begins : start ≡ (get_or rows i no_row).start = sym at ∙ ap (λ (row : Row). row.start) t.same in
      let ranks : run_before size list (page_of size list i) i ≡ rank size all i =
      ap (λ (p : ℕ). run_before size list (p / size) i) (same i h) ∙ run_front size list all number i (λ j l. same j (omega arith)) in
      let good = start_good page start (rank size all i) t.there in
      found_listed len m table list i
      (record {
        element = omega arith;
        page = rw (same i h, on) r.page;
        read = rw (ranks, same i h) (read_row_good number table page start (rank size all i) (get_or rows i no_row)
            (record { header = rw on r.header; rows = good.0; index = good.1; here = t.there; found = sym t.same; good = rw (begins, on) r.good }));
      })
