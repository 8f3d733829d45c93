-- Rules 4.13, 4.17, 5.4, 5.5, 5.33: the rows of a page, as the code finds them and how many they are.
--     unfit_index, counted_index    whether the index is good, by the tests of the code
--     good_parts                    an index that is good fits and its count agrees
--     index_inside                  such an index is no longer than the page
--     entries_kept, entries_none    the entries whose rows are looked at
--     rows_short                    rows are at most as many as the page's bytes
--     before_short                  the part for rows is no longer than the page
--     places_low, places_high       the places that are written, by where the page starts
use mathlib.Core.Path.{◌≡◌, refl, sym, ◌∙◌}
use mathlib.Core.Bool.{true, false}
use mathlib.Core.List.{List, []}
use Prim.Native.Nat.{ℕ, ◌+◌, ◌-◌, ◌%◌, ◌<◌, ◌≤◌}
use native.Mathlib.Omega.{arith}
use lib.ListN.{length, length-take}
use lib.Dec.{eqb}
use borrow.Author.Tests.{le-leb, lt-leb, leb-true, eqb-true}
use Rattle.lists.specs.Alias.{Bytes}
use Rattle.lists.proofs.Choice.{on, cond_holds, both_true, never}
use Rattle.format.specs.Size.{heap_start}
use Rattle.page.specs.Header.{rowless, entries, num_rows}
use Rattle.page.specs.Index.{index_size, present_from}
use Rattle.page.specs.Read.{index_fits, count_agrees, index_good, before_index, row_entries, entry_places, row_places}
use Rattle.std.specs.Prelude.{Option, Some, None}
use Rattle.page.specs.Private.{PageIndex, index_of, rows_index}
use Rattle.page.proofs.EntriesInside.{few_present}

pub good_parts : (page : Bytes) → index_good page ≡ true → (index_fits page ≡ true) × (count_agrees page ≡ true)
unfolding index_good
good_parts page e = both_true (index_fits page) (count_agrees page) e

-- an index that is good fits, so it is no longer than the page
pub index_inside : (page : Bytes) → index_good page ≡ true → index_size (entries page) ≤ length page
unfolding index_fits
index_inside page e = omega (arith, leb-true (heap_start + index_size (entries page)) (length page) (good_parts page e).0)

-- whether the index is good, by the test of the fit and then by the count
module _ (page : Bytes) {n size : ℕ} (b : n ≡ entries page) (d : size ≡ index_size n) where
  pub unfit_index : length page < heap_start + size → false ≡ index_good page
  unfolding index_good index_fits
  unfit_index h = rw (← b, ← d, lt-leb (heap_start + size) (length page) h)

  pub counted_index : {ones counted : ℕ} → heap_start + size ≤ length page → ones ≡ length (present_from page n 0) → counted ≡ num_rows page
      → eqb ones counted ≡ index_good page
  unfolding index_good index_fits count_agrees
  counted_index h o k = rw (← b, ← d, le-leb (heap_start + size) (length page) h, o, k)

-- the rows' entries, by what the code is told of the index
module _ (page : Bytes) {found : Option PageIndex} (e : found ≡ rows_index page) where
  told : {index : PageIndex} → rows_index page ≡ Some index → (index ≡ index_of page) × (row_entries page ≡ present_from page (entries page) 0)
  unfolding row_entries
  told {index} k =
      on (rowless page) (λ r. never (cc (rw r at k)))
      (λ r. on (index_good page) (λ g. (cc (rw (r, g) at k), rw (r, g))) (λ g. never (cc (rw (r, g) at k))))

  pub entries_kept : {index : PageIndex} → found ≡ Some index → (index.page ≡ page) × (row_entries page ≡ present_from page index.entries 0)
  entries_kept {index} k = let t = told (sym e ∙ k) in rw t.0 (refl, t.1)

  pub entries_none : found ≡ None → row_entries page ≡ []
  unfolding row_entries
  entries_none k =
      let none : rows_index page ≡ None = sym e ∙ k in
      on (rowless page) (λ r. rw r) (λ r. on (index_good page) (λ g. never (cc (rw (r, g) at none))) (λ g. rw (r, g)))

-- an index has at least a byte for each entry
index_long : (n : ℕ) → n ≤ index_size n
unfolding index_size
index_long n = on (eqb (n % 16) 0) (λ e. let z = eqb-true (n % 16) 0 e in rw e (omega arith)) (λ e. rw e (omega arith))

pub rows_short : (page : Bytes) → length (row_entries page) ≤ length page
unfolding row_entries
rows_short page =
    let Short : List ℕ → Type 0 = λ (l : List ℕ). length l ≤ length page in
    cond_holds Short (rowless page) (λ _. omega arith)
    (λ _. cond_holds Short (index_good page) (λ f. omega (arith, few_present page (entries page) 0, index_inside page f, index_long (entries page))) (λ _. omega arith))

pub before_short : (page : Bytes) → length (before_index page) ≤ length page
unfolding before_index
before_short page = omega (arith, length-take (length page - index_size (entries page)) page)

module _ (page : Bytes) (start : ℕ) where
  pub places_low : start + heap_start + 0xffff ≤ 0xffff_ffff → row_places start page ≡ entry_places start page (row_entries page)
  unfolding row_places
  places_low h = rw (le-leb (start + heap_start + 0xffff) 0xffff_ffff h)

  pub places_high : 0xffff_ffff < start + heap_start + 0xffff → row_places start page ≡ []
  unfolding row_places
  places_high h = rw (lt-leb (start + heap_start + 0xffff) 0xffff_ffff h)
