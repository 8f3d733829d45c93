-- The chain of an allowed file (rule 1.6): all its pages lie in the image, and the image is at most 268,435,456 bytes long.
--     part_length, places_fit     a page's part has len_page bytes, and its places fit 32 bits
--     Placed, chain_placed        the rows on the pages that a walk counts are those that it found, and the places written are theirs
--     file_faults                 the walk's refusals are 11 to 16 and 25, and what they carry
-- Rules 4.2, 4.10 and 4.17.
use mathlib.Core.Path.{◌≡◌, refl, sym, ap, ◌∙◌}
use mathlib.Core.Bool.{true}
use mathlib.Core.List.{List, [], ◌∷◌, map, map-append}
use Prim.Native.Nat.{ℕ, zero, suc, ◌+◌, ◌*◌, ◌<◌, ◌≤◌}
use native.Mathlib.Nat.{mul-le-mul_right, suc-mul}
use native.Mathlib.Omega.{arith}
use lib.ListN.{length, drop, length-drop}
use lib.Seq.{length-take-le}
use Rattle.lists.specs.Alias.{Bytes, Words, Places}
use Rattle.format.specs.Size.{heap_start}
use Rattle.format.specs.Place.{linkable}
use Rattle.refusal.specs.declared.Fault.{Fault}
use Rattle.refusal.specs.Answer.{Answer, given, refused}
use Rattle.table.specs.declared.Table.{Table}
use Rattle.lists.specs.Member.{is_member}
use Rattle.page.specs.Index.{row_start}
use Rattle.page.specs.Found.{Rows, row_of, place_of, places}
use Rattle.page.specs.Read.{row_entries, read_page, entry_places}
use Rattle.intake.specs.Length.{longest}
use Rattle.directory.specs.declared.Chain.{Chain}
use Rattle.chain.specs.Walk.{Walk, full, waiting, walk_from}
use Rattle.chain.specs.Along.{along, rows_along}
use Rattle.chain.specs.File.{page_part, page_next, file_pages, rows_on, rows_first, page_places, places_along}
use Rattle.chain.specs.Chain.{chain_walk, chain_rows, chain_places}
use Rattle.lists.proofs.Member.{member_first, member_more}
use Rattle.page.proofs.RowEntries.{places_low}
use Rattle.page.proofs.PageAnswer.{PageFault, page_read, page_refused}
use Rattle.chain.proofs.Linkable.{inside_both}
use Rattle.chain.proofs.PagesPassed.{Passed, PassedBy, pages_passed}
use Rattle.chain.proofs.ChainFaults.{Numbered, chain_fault, fault_numbered}

pub record AllowedFile (c : Chain) (image : Bytes) : Type 0 where
  pub inside : c.page_count * c.len_page ≤ length image
  pub short : c.page_count * c.len_page ≤ longest

-- the rows on the pages that a walk counts are those that it found, and the places written of these pages are theirs
abbrev pub Placed : (size : ℕ) (rows_of : ℕ → Rows) (places_of : ℕ → Places) → Walk Rows → Type 0
Placed size rows_of places_of (given (full rows pages)) = (rows_of pages ≡ rows) × (places_of pages ≡ places size rows)
Placed size rows_of places_of (given (waiting page rows pages)) = (rows_of pages ≡ rows) × (places_of pages ≡ places size rows)
Placed size rows_of places_of (refused f) = Unit {0}

-- the places of a page's rows, from the page's start on
entry-places : (size number : ℕ) (page : Bytes) (some : List ℕ) → entry_places (number * size) page some ≡ places size (map (row_of number page) some)
entry-places size number page [] = refl
entry-places size number page (i ∷ some) = ap (λ (l : Places). (number * size + row_start page i) ∷ l) (entry-places size number page some)

-- where it is so on each page, it is so along them
along_places : (size : ℕ) (next : ℕ → ℕ) (rows_of : ℕ → Rows) (places_of : ℕ → Places) (n page : ℕ)
    → ((q : ℕ) → is_member q (along next n page) ≡ true → places_of q ≡ places size (rows_of q))
    → rows_along next places_of n page ≡ places size (rows_along next rows_of n page)
unfolding along rows_along
along_places size next rows_of places_of zero page each = refl
along_places size next rows_of places_of (suc n) page each =
    let later = along next n (next page) in
    let rest = along_places size next rows_of places_of n (next page) (λ q m. each q (member_more q page later m)) in
    rw (each page (member_first page later), rest) (sym (map-append (place_of size) (rows_of page) (rows_along next rows_of n (next page))))

module _ {c : Chain} {image : Bytes} (f : AllowedFile c image) where
  abbrev size : ℕ
  size = c.len_page

  page_end : (number : ℕ) → number < c.page_count → number * size + size ≤ c.page_count * size
  page_end number h = omega (arith, mul-le-mul_right size h, suc-mul number size)

  pub part_length : (number : ℕ) → number < c.page_count → length (page_part size image number) ≡ size
  unfolding page_part
  part_length number h =
      length-take-le size (drop (number * size) image) (omega (arith, page_end number h, f.inside, length-drop (number * size) image))

  pub places_fit : (number : ℕ) → number < c.page_count → number * size + heap_start + 0xffff ≤ 0xffff_ffff
  places_fit number h = omega (arith, page_end number h, f.short)

  page_placed : (number : ℕ) → linkable c.page_count number ≡ true → page_places size image number ≡ places size (rows_on size image number)
  unfolding page_places rows_on
  page_placed number i =
      let page = page_part size image number in
      places_low page (number * size) (places_fit number (inside_both c.page_count number i).1) ∙ entry-places size number page (row_entries page)

  page_found : (table : Table) (number : ℕ) (rows : Rows) → read_page number table (page_part size image number) ≡ given rows → rows_on size image number ≡ rows
  unfolding rows_on
  page_found table number rows e = sym (page_read number table (page_part size image number) rows e).found

  from_placed : (table : Table) (map : Words)
      → Placed size (λ (pages : ℕ). rows_first size image pages c.first_page) (λ (pages : ℕ). places_along size image pages c.first_page)
      (walk_from (file_pages c table image map) c.first_page)
  from_placed table map = by (walk_from (file_pages c table image map) c.first_page) (pages_passed (file_pages c table image map) c.first_page)
    where
      along_both : (rows : Rows) (n : ℕ) → Passed (file_pages c table image map) [] c.first_page rows n
          → (rows_first size image n c.first_page ≡ rows) × (places_along size image n c.first_page ≡ places size rows)
      along_both rows n p =
          let found = p.found (rows_on size image) (λ q some i. page_found table q some) in
          let placed = along_places size (page_next size image) (rows_on size image) (page_places size image) n c.first_page (λ q m. page_placed q (p.inside q m)) in
          (found, placed ∙ ap (places size) found)

      by : (w : Walk Rows) → PassedBy (file_pages c table image map) [] c.first_page w
          → Placed size (λ (pages : ℕ). rows_first size image pages c.first_page) (λ (pages : ℕ). places_along size image pages c.first_page) w
      by (given (full rows n)) p = along_both rows n p
      by (given (waiting page rows n)) p = along_both rows n p
      by (refused g) p = tt

pub chain_placed : (size : ℕ) (table : Table) (image : Bytes) (map : Words) (chain : Answer Chain)
    → ((c : Chain) → chain ≡ given c → AllowedFile c image × (c.len_page ≡ size))
    → Placed size (λ (pages : ℕ). chain_rows image pages chain) (λ (pages : ℕ). chain_places image pages chain) (chain_walk table image map chain)
chain_placed size table image map (given c) f = let of_file = f c refl in rw (← of_file.1) (from_placed of_file.0 table map)
chain_placed size table image map (refused g) f = tt

-- of any file
module _ (c : Chain) (table : Table) (image : Bytes) (map : Words) (first : ℕ) where
  page_fault : (number : ℕ) (f : Fault) → read_page number table (page_part c.len_page image number) ≡ refused f
      → PageFault number f
  page_fault number f e = page_refused number table (page_part c.len_page image number) f e

  pub file_faults : (f : Fault) → walk_from (file_pages c table image map) first ≡ refused f → Numbered c.page_count f
  file_faults f e =
      fault_numbered (file_pages c table image map) first page_fault f (chain_fault (file_pages c table image map) first f e)
