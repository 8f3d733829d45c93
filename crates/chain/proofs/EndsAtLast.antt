-- Where a walk is Full, the last of the pages walked is last_page: rule 4.6. Nothing else ends a chain.
-- Rests on the steps of the walk (proofs/WalkStep).
use mathlib.Core.Path.{◌≡◌, refl, subst}
use mathlib.Core.Bool.{true}
use mathlib.Core.List.{List, [], ◌∷◌}
use Prim.Native.Nat.{ℕ, zero, suc, ◌+◌, ◌-◌, ◌≤◌}
use native.Mathlib.Numerals.{add-one}
use native.Mathlib.Omega.{arith}
use lib.ListN.{get_or}
use borrow.Author.Tests.{eqb-true}
use Rattle.lists.specs.Alias.{Bytes, Words}
use Rattle.refusal.specs.Answer.{Answer, given, refused}
use Rattle.table.specs.declared.Table.{Table}
use Rattle.directory.specs.declared.Chain.{Chain}
use Rattle.page.specs.Found.{Rows}
use Rattle.chain.specs.Walk.{Pages, Walk, full, waiting, in_front, walk, walk_from}
use Rattle.chain.specs.Along.{along}
use Rattle.chain.specs.File.{page_next, file_pages}
use Rattle.lists.proofs.Choice.{cond_holds}
use Rattle.chain.proofs.WalkStep.{read_then, behind, step_holds}

-- the last of the first n pages from this page on
abbrev pub last_along : (next : ℕ → ℕ) (n page : ℕ) → ℕ
last_along next n page = get_or (along next n page) (n - 1) 0

last_one : (next : ℕ → ℕ) (page : ℕ) → last_along next (0 + 1) page ≡ page
unfolding along
last_one next page = refl

last_more : (next : ℕ → ℕ) (n page : ℕ) → 1 ≤ n → last_along next (n + 1) page ≡ last_along next n (next page)
unfolding along
last_more next zero page h = absurd (omega arith)
last_more next (suc n) page h =
    let more : suc (suc n) - 1 ≡ suc n = omega arith in
    let one : suc n - 1 ≡ n = omega arith in
    rw (add-one (suc n), more, one) refl

module _ (pages : Pages) where
  abbrev EndsAtLast : ℕ → Walk Rows → Type 0
  EndsAtLast page (given (full rows n)) = (1 ≤ n) × (pages.is_last (last_along pages.next n page) ≡ true)
  EndsAtLast page (given (waiting at rows n)) = Unit {0}
  EndsAtLast page (refused f) = Unit {0}

  ends_here : (page : ℕ) → pages.is_last page ≡ true → (r : Answer Rows) → EndsAtLast page (read_then r (given (full [] 0)))
  ends_here page e (given rows) = (omega arith, rw (last_one pages.next page) e)
  ends_here page e (refused f) = tt

  ends_front : (page : ℕ) (rows : Rows) (w : Walk Rows) → EndsAtLast (pages.next page) w → EndsAtLast page (in_front rows w)
  ends_front page rows (given (full rest n)) e = (omega arith, rw (last_more pages.next n page e.0) e.1)
  ends_front page rows (given (waiting at rest n)) e = tt
  ends_front page rows (refused f) e = tt

  ends_later : (page : ℕ) (r : Answer Rows) (w : Walk Rows) → EndsAtLast (pages.next page) w → EndsAtLast page (read_then r w)
  ends_later page (given rows) w e = ends_front page rows w e
  ends_later page (refused f) w e = tt

  walk_ends : (fuel : ℕ) (met : List ℕ) (holder page : ℕ) → EndsAtLast page (walk pages fuel met holder page)
  unfolding walk behind
  walk_ends zero met holder page = tt
  walk_ends (suc fuel) met holder page =
      step_holds pages fuel met holder page (EndsAtLast page) (λ _. tt) tt (λ _ _ _. tt)
      (λ _ _ _. cond_holds (λ (w : Walk Rows). EndsAtLast page (read_then (pages.read page) w)) (pages.is_last page)
      (λ e. ends_here page e (pages.read page))
      (λ _. ends_later page (pages.read page) (walk pages fuel (page ∷ met) page (pages.next page)) (walk_ends fuel (page ∷ met) page (pages.next page))))

-- a Full walk of a file's chain ends at the chain's last_page
pub full_ends_at_last : (c : Chain) (table : Table) (image : Bytes) (map : Words) (rows : Rows) (n : ℕ)
    → walk_from (file_pages c table image map) c.first_page ≡ given (full rows n)
    → last_along (page_next c.len_page image) n c.first_page ≡ c.last_page
unfolding walk_from
full_ends_at_last c table image map rows n e =
    let pages = file_pages c table image map in
    let ends = subst (EndsAtLast pages c.first_page) e (walk_ends pages (suc c.page_count) [] 0 c.first_page) in
    eqb-true (last_along (page_next c.len_page image) n c.first_page) c.last_page ends.1
