-- The pages walked over any page layer (specs/Pages).
--     walked_distinct           they differ from each other
--     walked_read               they are the pages that the walk reads without a fault
--     Counted, from_counted     a walk that is not refused carries their number
-- Rests on the steps of the walk (chain: WalkStep).
use mathlib.Core.Path.{◌≡◌, refl, sym, ◌∙◌}
use mathlib.Core.Bool.{Bool, true, false, cond, not, ◌&&◌, false≢true}
use mathlib.Core.List.{List, [], ◌∷◌}
use Prim.Native.Nat.{ℕ, zero, suc}
use native.Mathlib.Omega.{arith}
use lib.ListN.{length}
use lib.Dec.{eqb}
use borrow.Author.Tests.{not-true, eq-eqb, eqb-true}
use Rattle.lists.specs.Member.{is_member}
use Rattle.lists.specs.Distinct.{Distinct}
use Rattle.refusal.specs.Answer.{Answer, given, refused}
use Rattle.format.specs.Place.{linkable}
use Rattle.page.specs.Found.{Rows}
use Rattle.chain.specs.Walk.{Pages, Walk, full, waiting, in_front, walk, walk_from}
use Rattle.chain.specs.Reads.{is_given, comes_to, goes_on, reads}
use Rattle.disjoint.specs.Pages.{passes, walked, walked_from}
use Rattle.lists.proofs.Choice.{on, cond_holds, both_true}
use Rattle.lists.proofs.Member.{member_first, no_member, fewer_members}
use Rattle.lists.proofs.Each.{Each, each_of, each_member}
use Rattle.chain.proofs.WalkStep.{read_then, behind, step_holds}

-- the number that a walk carries, if it is not refused, is the length of the list
abbrev pub Counted : Walk Rows → List ℕ → Type 0
Counted (given (full rows n)) list = n ≡ length list
Counted (given (waiting page rows n)) list = n ≡ length list
Counted (refused f) list = Unit {0}

counted_front : (rows : Rows) (w : Walk Rows) (page : ℕ) (list : List ℕ) → Counted w list → Counted (in_front rows w) (page ∷ list)
counted_front rows (given (full rest n)) page list e = omega arith
counted_front rows (given (waiting at rest n)) page list e = omega arith
counted_front rows (refused f) page list e = tt

module _ (pages : Pages) where
  passes_new : (met : List ℕ) (page : ℕ) → passes pages met page ≡ true → is_member page met ≡ false
  unfolding passes comes_to
  passes_new met page e =
      let new = not (is_member page met) in
      let come = (both_true (comes_to pages met page) (is_given (pages.read page)) e).0 in
      let rest = (both_true (linkable pages.page_count page) (new && pages.held page) come).1 in
      not-true (is_member page met) (both_true new (pages.held page) rest).0

  -- the page was not met before
  abbrev New : List ℕ → ℕ → Type 0
  New met page = is_member page met ≡ false

  walked_new : (fuel : ℕ) (met : List ℕ) (page : ℕ) → Each (New met) (walked pages fuel met page)
  unfolding walked
  walked_new zero met page = tt
  walked_new (suc fuel) met page =
      let rest = walked pages fuel (page ∷ met) (pages.next page) in
      cond_holds (Each (New met)) (passes pages met page)
      (λ p. (
        passes_new met page p,
        cond_holds (Each (New met)) (pages.is_last page) (λ _. tt)
            (λ _. each_of (New (page ∷ met)) (New met) rest (λ q. fewer_members q page met) (walked_new fuel (page ∷ met) (pages.next page))),
      ))
      (λ _. tt)

  pub walked_distinct : (fuel : ℕ) (met : List ℕ) (page : ℕ) → Distinct (walked pages fuel met page)
  unfolding walked is_member
  walked_distinct zero met page = tt
  walked_distinct (suc fuel) met page =
      let rest = walked pages fuel (page ∷ met) (pages.next page) in
      let new = walked_new fuel (page ∷ met) (pages.next page) in
      cond_holds Distinct (passes pages met page)
      (λ _. cond_holds (λ (l : List ℕ). Distinct (page ∷ l)) (pages.is_last page) (λ _. (refl, tt))
      (λ _. (
        no_member page rest (λ t. false≢true (sym (each_member (New (page ∷ met)) rest page new t) ∙ member_first page met)),
        walked_distinct fuel (page ∷ met) (pages.next page),
      )))
      (λ _. tt)

  -- at the page itself, and behind it
  module _ (fuel : ℕ) (met : List ℕ) (page q : ℕ) (come : comes_to pages met page ≡ true) where
    abbrev later : List ℕ
    later = walked pages fuel (page ∷ met) (pages.next page)

    abbrev reads_later : Bool
    reads_later = reads pages fuel (page ∷ met) (pages.next page) q

    read_itself : q ≡ page → is_member q (walked pages (suc fuel) met page) ≡ (reads pages (suc fuel) met page q && is_given (pages.read q))
    unfolding reads walked passes is_member
    read_itself e =
        on (is_given (pages.read page)) (λ g. rw (e, come, g, eq-eqb page page refl)) (λ g. rw (e, come, g, eq-eqb page page refl))

    read_later : eqb q page ≡ false → is_member q later ≡ (reads_later && is_given (pages.read q))
        → is_member q (walked pages (suc fuel) met page) ≡ (reads pages (suc fuel) met page q && is_given (pages.read q))
    unfolding reads walked passes goes_on is_member
    read_later e rest =
        on (is_given (pages.read page))
        (λ g. on (pages.is_last page) (λ l. rw (come, g, l, e)) (λ l. rw (come, g, l, e) rest))
        (λ g. rw (come, g, e))

  pub walked_read : (fuel : ℕ) (met : List ℕ) (page q : ℕ)
      → is_member q (walked pages fuel met page) ≡ (reads pages fuel met page q && is_given (pages.read q))
  unfolding reads walked passes is_member
  walked_read zero met page q = refl
  walked_read (suc fuel) met page q =
      on (comes_to pages met page)
      (λ c. on (eqb q page) (λ e. read_itself fuel met page q c (eqb-true q page e))
      (λ e. read_later fuel met page q c e (walked_read fuel (page ∷ met) (pages.next page) q)))
      (λ c. rw c)

  module _ (fuel : ℕ) (met : List ℕ) (holder page : ℕ) where
    none_missing : linkable pages.page_count page ≡ true → is_member page met ≡ false → pages.held page ≡ false → walked pages (suc fuel) met page ≡ []
    unfolding walked passes comes_to
    none_missing i m h = rw (i, m, h)

    -- the pages walked behind this one
    abbrev rest : List ℕ
    rest = cond (pages.is_last page) [] (walked pages fuel (page ∷ met) (pages.next page))

    more_read : (rows : Rows) → linkable pages.page_count page ≡ true → is_member page met ≡ false → pages.held page ≡ true → pages.read page ≡ given rows
        → walked pages (suc fuel) met page ≡ page ∷ rest
    unfolding walked passes comes_to
    more_read rows i m h e = rw (i, m, h, e)

    counted_read : (r : Answer Rows) → pages.read page ≡ r → linkable pages.page_count page ≡ true → is_member page met ≡ false → pages.held page ≡ true
        → Counted (behind pages fuel met holder page) rest → Counted (read_then r (behind pages fuel met holder page)) (walked pages (suc fuel) met page)
    counted_read (given rows) e i m h c = rw (more_read rows i m h e) (counted_front rows (behind pages fuel met holder page) page rest c)
    counted_read (refused f) e i m h c = tt

  walk_counted : (fuel : ℕ) (met : List ℕ) (holder page : ℕ) → Counted (walk pages fuel met holder page) (walked pages fuel met page)
  unfolding walk behind
  walk_counted zero met holder page = tt
  walk_counted (suc fuel) met holder page =
      step_holds pages fuel met holder page (λ (w : Walk Rows). Counted w (walked pages (suc fuel) met page))
      (λ _. tt) tt (λ i m h. rw (none_missing fuel met holder page i m h) refl)
      (λ i m h. counted_read fuel met holder page (pages.read page) refl i m h
      (on (pages.is_last page) (λ l. rw l refl) (λ l. rw l (walk_counted fuel (page ∷ met) page (pages.next page)))))

  pub from_counted : (first : ℕ) → Counted (walk_from pages first) (walked_from pages first)
  unfolding walk_from walked_from
  from_counted first = walk_counted (suc pages.page_count) [] 0 first
