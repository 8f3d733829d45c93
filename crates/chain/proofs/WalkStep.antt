-- One step of the walk: what it finds at a page, by rules 4.2 to 4.6 in their order.
--     step_outside, step_met, step_waiting, step_read     the walk at a page, one law for each case
--     step_loop        a page met before is 16, whatever fuel is left
--     step_holds       what holds in each case holds of the walk
use mathlib.Core.Path.{◌≡◌, refl}
use mathlib.Core.Bool.{true, false, cond, not}
use mathlib.Core.List.{List, [], ◌∷◌}
use Prim.Native.Nat.{ℕ, zero, suc}
use borrow.Author.Tests.{not-true, not-false}
use Rattle.lists.specs.Member.{is_member}
use Rattle.refusal.specs.Fault.{fault}
use Rattle.refusal.specs.Answer.{Answer, given, refused, and_then}
use Rattle.format.specs.Place.{linkable}
use Rattle.page.specs.Found.{Rows}
use Rattle.chain.specs.Walk.{Pages, Walk, full, waiting, in_front, walk}
use Rattle.lists.proofs.Choice.{cond_holds}

-- a page's rows in front of the rest, or its fault
abbrev pub read_then : Answer Rows → Walk Rows → Walk Rows
read_then read rest = and_then read (λ rows. in_front rows rest)

module _ (pages : Pages) (fuel : ℕ) (met : List ℕ) (holder page : ℕ) where
  pub step_outside : linkable pages.page_count page ≡ false → walk pages (suc fuel) met holder page ≡ refused (fault 11 holder)
  unfolding walk
  step_outside e = rw e

  -- the walk behind a page that is read
  unfoldable pub behind : Walk Rows
  behind = cond (pages.is_last page) (given (full [] 0)) (walk pages fuel (page ∷ met) page (pages.next page))

  module _ (inside : linkable pages.page_count page ≡ true) where
    pub step_met : is_member page met ≡ true → walk pages (suc fuel) met holder page ≡ refused (fault 16 0)
    unfolding walk
    step_met e = rw (inside, e)

    pub step_waiting : is_member page met ≡ false → pages.held page ≡ false → walk pages (suc fuel) met holder page ≡ given (waiting page [] 0)
    unfolding walk
    step_waiting e h = rw (inside, e, h)

    pub step_read : is_member page met ≡ false → pages.held page ≡ true → walk pages (suc fuel) met holder page ≡ read_then (pages.read page) behind
    unfolding walk behind
    step_read e h = rw (inside, e, h)

  pub step_holds : (P : Walk Rows → Type 0)
      → (linkable pages.page_count page ≡ false → P (refused (fault 11 holder)))
      → P (refused (fault 16 0))
      → (linkable pages.page_count page ≡ true → is_member page met ≡ false → pages.held page ≡ false → P (given (waiting page [] 0)))
      → (linkable pages.page_count page ≡ true → is_member page met ≡ false → pages.held page ≡ true → P (read_then (pages.read page) behind))
      → P (walk pages (suc fuel) met holder page)
  unfolding walk behind
  step_holds P outside loop missing read =
      let inside = linkable pages.page_count page in
      cond_holds P (not inside) (λ o. outside (not-true inside o))
      (λ i. cond_holds P (is_member page met) (λ _. loop)
      (λ m. cond_holds P (not (pages.held page)) (λ h. missing (not-false inside i) m (not-true (pages.held page) h))
      (λ h. read (not-false inside i) m (not-false (pages.held page) h))))

pub step_loop : (pages : Pages) (fuel : ℕ) (met : List ℕ) (holder page : ℕ) → linkable pages.page_count page ≡ true → is_member page met ≡ true
    → walk pages fuel met holder page ≡ refused (fault 16 0)
unfolding walk
step_loop pages zero met holder page i e = refl
step_loop pages (suc fuel) met holder page i e = step_met pages fuel met holder page i e
