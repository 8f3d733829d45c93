-- A page's part of the image (specs/File), as `part` takes it, and its next page. Rules 3.10 and 4.16.
--     part_whole           the part that the code borrows
--     part_short           the part is no longer than len_page
--     part_next            next_page, read from the part
--     page-of, start_of    a place by its page and its start there
use mathlib.Core.Path.{◌≡◌, ap, ◌∙◌}
use Prim.Native.Nat.{ℕ, ◌+◌, ◌-◌, ◌*◌, ◌/◌, ◌%◌, ◌<◌, ◌≤◌}
use native.Mathlib.Nat.{div-add-mod', div-eq_of_lt-le, suc-mul}
use native.Mathlib.Omega.{arith}
use lib.ListN.{length, take, drop, length-take}
use Rattle.lists.specs.Alias.{Bytes}
use Rattle.format.specs.declared.Page.{Page}
use Rattle.format.specs.Place.{page_bounds}
use Rattle.page.specs.Header.{next_page}
use Rattle.chain.specs.File.{page_part, page_next}
use Rattle.lists.proofs.Part.{part_sized}

module _ {place : Page} (size number : ℕ) (e : place ≡ page_bounds number size) where
  pub start_at : place.start ≡ number * size
  start_at = ap (λ (p : Page). p.start) e

  pub end_at : place.end ≡ number * size + size
  end_at = ap (λ (p : Page). p.end) e

module _ {place : Page} (image : Bytes) (size number : ℕ) (e : place ≡ page_bounds number size) where
  pub part_whole : take (place.end - place.start) (drop place.start image) ≡ page_part size image number
  unfolding page_part
  part_whole = rw (start_at size number e, end_at size number e) (part_sized image (number * size) size)

pub part_short : (image : Bytes) (size number : ℕ) → length (page_part size image number) ≤ size
unfolding page_part
part_short image size number = omega (arith, length-take size (drop (number * size) image))

pub part_next : {page : Bytes} {next : ℕ} (size : ℕ) (image : Bytes) (number : ℕ) → page ≡ page_part size image number → next ≡ next_page page
    → next ≡ page_next size image number
unfolding page_next
part_next size image number p e = e ∙ ap next_page p

-- a place on a page by the page's number and the row's start
pub page-of : (size number start : ℕ) → start < size → (number * size + start) / size ≡ number
page-of size number start h = div-eq_of_lt-le size (omega arith) (omega (arith, suc-mul number size))

pub start_of : (size number start : ℕ) → start < size → (number * size + start) % size ≡ start
start_of size number start h =
    let place = number * size + start in
    let whole : number * size + place % size ≡ place = rw (page-of size number start h) at (div-add-mod' place size) in
    omega arith
