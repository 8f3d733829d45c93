-- Rules 5.30, 5.31: each row that the walk along a chain finds is the row of its rank on its page, in an allowed file.
--     row_there                the rows of one page
--     RowsThere, rows_there    the rows that a walk finds
-- Rests on proofs/RunsInRows, on the pages that a walk counts (chain: PagesPassed), and on what reading a page says (page: PageAnswer).
use mathlib.Core.Path.{◌≡◌, refl, sym, ap}
use mathlib.Core.Bool.{true}
use mathlib.Core.List.{[]}
use Prim.Native.Nat.{ℕ, ◌/◌, ◌%◌, ◌<◌}
use native.Mathlib.Omega.{arith}
use lib.ListN.{length, drop, get_or, length-drop}
use borrow.Author.Tests.{lt-ltb, eq-eqb}
use Rattle.lists.specs.Alias.{Bytes, Words}
use Rattle.lists.proofs.Each.{Each, each_at, each_every, each_of}
use Rattle.format.specs.Place.{linkable}
use Rattle.refusal.specs.Answer.{Answer, given, refused}
use Rattle.table.specs.declared.Table.{Table}
use Rattle.row.specs.Check.{check_row}
use Rattle.row.proofs.GoodRow.{good_some}
use Rattle.page.specs.declared.Row.{Row}
use Rattle.page.specs.Index.{row_start}
use Rattle.page.specs.Found.{Rows, place_of, places, no_row}
use Rattle.page.specs.Read.{before_index, row_entries, page_rows, read_page}
use Rattle.page.specs.OneRow.{row_ranked, is_row}
use Rattle.page.proofs.RowEntries.{before_short}
use Rattle.page.proofs.PageAnswer.{GoodPage, page_read, page_many, page_row, rows_good}
use Rattle.directory.specs.declared.Chain.{Chain}
use Rattle.chain.specs.Walk.{Pages, Walk, full, waiting, walk_from}
use Rattle.chain.specs.Along.{rows_along}
use Rattle.chain.specs.File.{page_part, file_pages}
use Rattle.chain.proofs.Linkable.{inside_both}
use Rattle.chain.proofs.PagePart.{page-of, start_of}
use Rattle.chain.proofs.PagesPassed.{Passed, PassedBy, pages_passed}
use Rattle.chain.proofs.ChainPlaces.{AllowedFile, part_length}
use Rattle.listed.specs.Rank.{page_of, rank}
use Rattle.listed.proofs.RunsInRows.{AllOn, place_at, along_ranked}

-- a page of size bytes that is read without a fault
module _ (size number : ℕ) (table : Table) (page : Bytes) (long : length page ≡ size) (rows : Rows) (e : read_page number table page ≡ given rows) where
  good : GoodPage number table page rows
  good = page_read number table page rows e

  starts_low : Each (λ (row : Row). row.start < size) rows
  starts_low =
      rw good.found
      (each_of (λ (row : Row). check_row table (drop row.start (before_index page)) ≡ given tt) (λ (row : Row). row.start < size) (page_rows number page)
      (λ row g. omega (arith, good_some table (drop row.start (before_index page)) g, length-drop row.start (before_index page), before_short page, long))
      (rows_good table (before_index page) (page_rows number page) good.good))

  module _ (k : ℕ) (h : k < length rows) where
    below : k < length (row_entries page)
    below = omega (arith, page_many number table page rows e)

    pub row_is : get_or rows k no_row ≡ row_ranked number page k
    row_is = page_row number table page rows e k h

    start : ℕ
    start = row_start page (get_or (row_entries page) k 0)

    start_low : start < size
    unfolding start
    start_low = rw row_is at (each_at (λ (row : Row). row.start < size) rows k no_row starts_low h)

    pub row_page : place_of size (get_or rows k no_row) / size ≡ number
    unfolding start
    row_page = rw row_is (page-of size number start start_low)

    pub row_there : is_row page (place_of size (get_or rows k no_row) % size) k ≡ true
    unfolding is_row start
    row_there =
        let own = row_start page (get_or (row_entries page) k 0) in
        let at : place_of size (get_or rows k no_row) % size ≡ own = rw row_is (start_of size number own start_low) in
        rw (lt-ltb k (length (row_entries page)) below, at, eq-eqb own own refl)

  pub page_rows_on : AllOn size number rows
  page_rows_on = each_every (λ (row : Row). place_of size row / size ≡ number) rows no_row row_page

-- row i of these rows, by its place among theirs: the page that the place lies on has it there, by the element's rank
pub record RowThere (size : ℕ) (image : Bytes) (rows : Rows) (i : ℕ) : Type 0 where
  pub there : is_row (page_part size image (page_of size (places size rows) i)) (get_or (places size rows) i 0 % size) (rank size (places size rows) i) ≡ true
  pub same : row_ranked (page_of size (places size rows) i) (page_part size image (page_of size (places size rows) i)) (rank size (places size rows) i) ≡ get_or rows i no_row

-- the same of each row that a walk found
abbrev pub RowsThere : (size : ℕ) (image : Bytes) → Walk Rows → Type 0
RowsThere size image (given (full rows pages)) = (i : ℕ) → i < length rows → RowThere size image rows i
RowsThere size image (given (waiting page rows pages)) = (i : ℕ) → i < length rows → RowThere size image rows i
RowsThere size image (refused f) = Unit {0}

-- the rows that reading a page gives
abbrev rows_in : Answer Rows → Rows
rows_in (given rows) = rows
rows_in (refused f) = []

module _ {c : Chain} {image : Bytes} (f : AllowedFile c image) (table : Table) (map : Words) where
  abbrev size : ℕ
  size = c.len_page

  abbrev pages : Pages
  pages = file_pages c table image map

  abbrev rows_of : ℕ → Rows
  rows_of q = rows_in (pages.read q)

  long : (q : ℕ) → linkable c.page_count q ≡ true → length (page_part size image q) ≡ size
  long q i = part_length f q (inside_both c.page_count q i).1

  rows_on : (q : ℕ) → linkable c.page_count q ≡ true → AllOn size q (rows_of q)
  rows_on q i = by (pages.read q) refl
    where
      by : (r : Answer Rows) → pages.read q ≡ r → AllOn size q (rows_in r)
      by (given rows) e = page_rows_on size q table (page_part size image q) (long q i) rows e
      by (refused g) e = tt

  -- row k of a page
  record OnPage (q k : ℕ) (row : Row) : Type 0 where
    there : is_row (page_part size image q) (place_of size row % size) k ≡ true
    page : place_of size row / size ≡ q
    same : row_ranked q (page_part size image q) k ≡ row

  on_page : (q : ℕ) → linkable c.page_count q ≡ true → (k : ℕ) → k < length (rows_of q) → OnPage q k (get_or (rows_of q) k no_row)
  on_page q i k = by (pages.read q) refl
    where
      by : (r : Answer Rows) → pages.read q ≡ r → k < length (rows_in r) → OnPage q k (get_or (rows_in r) k no_row)
      by (given rows) e h =
          let page = page_part size image q in
          record {
            there = row_there size q table page (long q i) rows e k h;
            page = row_page size q table page (long q i) rows e k h;
            same = sym (row_is size q table page (long q i) rows e k h);
          }
      by (refused g) e h = absurd (omega arith)

  passed_there : (rows : Rows) (n : ℕ) → Passed pages [] c.first_page rows n → (i : ℕ) → i < length rows → RowThere size image rows i
  unfolding rank
  passed_there rows n p i h =
      let all : rows_along pages.next rows_of n c.first_page ≡ rows = p.found rows_of (λ q some l e. ap rows_in e) in
      let r = rw all at (along_ranked size pages.next rows_of n c.first_page p.distinct (λ q e. rows_on q (p.inside q e)) i (rw (sym all) at h)) in
      let row = on_page r.page (p.inside r.page r.passed) r.number r.below in
      let own = rw (sym r.row) at row in
      let place = place_at size rows i h in
      record { there = rw (place, own.page, r.run) own.there; same = rw (place, own.page, r.run) own.same }

  pub rows_there : RowsThere size image (walk_from pages c.first_page)
  rows_there = by (walk_from pages c.first_page) (pages_passed pages c.first_page)
    where
      by : (w : Walk Rows) → PassedBy pages [] c.first_page w → RowsThere size image w
      by (given (full rows n)) p = passed_there rows n p
      by (given (waiting page rows n)) p = passed_there rows n p
      by (refused g) p = tt
