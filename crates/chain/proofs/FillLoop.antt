-- The loop of `fill_along`: its invariant, and how a turn keeps it. Rule 4.10.
--     short      after a page for whose rows the list was too short
--     next       after any other page
--     end        after the last page
use mathlib.Core.Path.{◌≡◌, sym, ap, ◌∙◌}
use mathlib.Core.List.{List, [], ◌++◌}
use Prim.Native.Nat.{ℕ, ◌+◌, ◌-◌, ◌<◌, ◌≤◌}
use native.Mathlib.Omega.{arith}
use lib.ListN.{length, take, drop}
use lib.Seq.{sets, length-sets}
use borrow.Rule.Slice.PartMut.{put_mid}
use Rattle.lists.specs.Alias.{Bytes, Places}
use Rattle.lists.specs.Write.{written}
use Rattle.chain.specs.Along.{rows_along}
use Rattle.chain.specs.File.{page_next, page_places, places_along}
use Rattle.lists.proofs.Choice.{left_step}
use Rattle.lists.proofs.Sets.{sets_append, sets_past, put_rest}

module _ {A : Type 0} (forward : ℕ → ℕ) (rows : ℕ → List A) (pages i page : ℕ) where
  pub along_more : i < pages → rows_along forward rows (pages - i) page ≡ rows page ++ rows_along forward rows (pages - (i + 1)) (forward page)
  unfolding rows_along
  along_more h = ap (λ (n : ℕ). rows_along forward rows n page) (left_step h)

  pub along_end : pages ≤ i → rows_along forward rows (pages - i) page ≡ []
  unfolding rows_along
  along_end h = let none : pages - i ≡ 0 = omega arith in ap (λ (n : ℕ). rows_along forward rows n page) none

-- i pages are done, this page is next, and the places of those before stand in the list before index at
pub record Filling (size : ℕ) (image : Bytes) (first pages : ℕ) (list₀ : Places) (page i at : ℕ) (list : Places) : Type 0 where
  pub inside : at ≤ length list
  pub same : length list ≡ length list₀
  pub rest : written list₀ (places_along size image pages first) ≡ sets list at (places_along size image (pages - i) page)

module _ {size : ℕ} {image : Bytes} {first pages : ℕ} {list₀ : Places} {page i at : ℕ} {list : Places}
    (w : Filling size image first pages list₀ page i at list) where
  pub end : pages ≤ i → list ≡ written list₀ (places_along size image pages first)
  end h = sym (w.rest ∙ rw (along_end (page_next size image) (page_places size image) pages i page h))

  -- the part of the list from index at on came back with these places
  module _ {part : Places} (places : Places) (p : part ≡ written (take (length list - at) (drop at list)) places) where
    abbrev after : Places
    after = put_mid at (length list - at) list part

    wrote : after ≡ sets list at places
    wrote = put_rest list at places w.inside p

    pub kept : length after ≡ length list₀
    kept = ap length wrote ∙ length-sets list at places ∙ w.same

    -- they are the places of the page
    module _ {found : ℕ} (more : i < pages) (f : found ≡ length (page_places size image page)) (e : places ≡ page_places size image page) where
      turn : written list₀ (places_along size image pages first) ≡ sets after (at + found) (places_along size image (pages - (i + 1)) (page_next size image page))
      turn =
          w.rest ∙ ap (sets list at) (along_more (page_next size image) (page_places size image) pages i page more)
          ∙ sets_append list at (page_places size image page) (places_along size image (pages - (i + 1)) (page_next size image page))
          ∙ rw (← e, ← wrote, ap length e, ← f)

      pub short : length after - at < found → after ≡ written list₀ (places_along size image pages first)
      short h = sym (turn ∙ sets_past after (at + found) (places_along size image (pages - (i + 1)) (page_next size image page)) (omega arith))

      pub next : {page' : ℕ} → found ≤ length after - at → page' ≡ page_next size image page
          → Filling size image first pages list₀ page' (i + 1) (at + found) after
      next h e = record { inside = omega (arith, kept, w.inside, w.same); same = kept; rest = turn ∙ rw e }
