-- The pages that a Full or Waiting walk counts are the first pages of the chain, differ from each other, lie in 1..P-1, are held,
-- and are at most P-1; and the rows found are theirs: rules 4.9 and 4.10. Rests on the steps of the walk (proofs/WalkStep).
use mathlib.Core.Path.{◌≡◌, refl, sym, ap, ◌∙◌}
use mathlib.Core.Bool.{true, false, false≢true}
use mathlib.Core.List.{List, [], ◌∷◌, ◌++◌}
use mathlib.Core.Logic.{⊎_elim}
use Prim.Native.Nat.{ℕ, zero, suc, ◌+◌, ◌-◌, ◌≤◌}
use native.Mathlib.Numerals.{add-one}
use native.Mathlib.Omega.{arith}
use lib.ListN.{length}
use Rattle.lists.specs.Member.{is_member}
use Rattle.lists.specs.Distinct.{Distinct}
use Rattle.refusal.specs.Answer.{Answer, given, refused}
use Rattle.format.specs.Place.{linkable}
use Rattle.page.specs.Found.{Rows}
use Rattle.chain.specs.Walk.{Pages, Walk, full, waiting, in_front, walk, walk_from}
use Rattle.chain.specs.Along.{along, rows_along}
use Rattle.lists.proofs.Choice.{never, cond_holds}
use Rattle.lists.proofs.Member.{member_first, member_cases, no_member, fewer_members}
use Rattle.chain.proofs.FuelEnough.{few}
use Rattle.chain.proofs.WalkStep.{read_then, behind, step_holds}

-- n pages from this page on, none of which was met before, and their rows
pub record Passed (pages : Pages) (met : List ℕ) (page : ℕ) (rows : Rows) (n : ℕ) : Type 0 where
  pub distinct : Distinct (along pages.next n page)
  pub new : (q : ℕ) → is_member q (along pages.next n page) ≡ true → is_member q met ≡ false
  pub inside : (q : ℕ) → is_member q (along pages.next n page) ≡ true → linkable pages.page_count q ≡ true
  pub held : (q : ℕ) → is_member q (along pages.next n page) ≡ true → pages.held q ≡ true
  pub found : (rows_of : ℕ → Rows) → ((q : ℕ) (some : Rows) → linkable pages.page_count q ≡ true → pages.read q ≡ given some → rows_of q ≡ some)
      → rows_along pages.next rows_of n page ≡ rows

abbrev pub PassedBy : Pages → List ℕ → ℕ → Walk Rows → Type 0
PassedBy pages met page (given (full rows n)) = Passed pages met page rows n
PassedBy pages met page (given (waiting at rows n)) = Passed pages met page rows n
PassedBy pages met page (refused f) = Unit {0}

module _ (pages : Pages) where
  passed_none : (met : List ℕ) (page : ℕ) → Passed pages met page [] 0
  unfolding along rows_along is_member
  passed_none met page =
      record { distinct = tt; new = λ q e. never (cc); inside = λ q e. never (cc); held = λ q e. never (cc); found = λ rows_of h. refl }

  module _ (met : List ℕ) (page : ℕ) (i : linkable pages.page_count page ≡ true) (m : is_member page met ≡ false) (h : pages.held page ≡ true) where
    met_later : (q : ℕ) → is_member q (page ∷ met) ≡ false → (is_member q met ≡ false) × (q ≡ page → ⊥)
    met_later q e = (
      fewer_members q page met e,
      λ s. false≢true (sym e ∙ rw s (member_first page met)),
    )

    passed_more : (rows rest : Rows) (n : ℕ) → pages.read page ≡ given rows → Passed pages (page ∷ met) (pages.next page) rest n
        → Passed pages met page (rows ++ rest) (n + 1)
    unfolding along rows_along
    passed_more rows rest n e p =
        rw (add-one n)
        record {
          distinct = (no_member page behind_it (λ t. (met_later page (p.new page t)).1 refl), p.distinct);
          new = λ q t. ⊎_elim (λ s. rw s m) (λ s. (met_later q (p.new q s)).0) (member_cases q page behind_it t);
          inside = λ q t. ⊎_elim (λ s. rw s i) (λ s. p.inside q s) (member_cases q page behind_it t);
          held = λ q t. ⊎_elim (λ s. rw s h) (λ s. p.held q s) (member_cases q page behind_it t);
          found = λ rows_of each. rw (each page rows i e, p.found rows_of each);
        }
      where
        behind_it : List ℕ
        behind_it = along pages.next n (pages.next page)

    passed_front : (rows : Rows) → pages.read page ≡ given rows → (w : Walk Rows) → PassedBy pages (page ∷ met) (pages.next page) w
        → PassedBy pages met page (in_front rows w)
    passed_front rows e (given (full rest n)) p = passed_more rows rest n e p
    passed_front rows e (given (waiting at rest n)) p = passed_more rows rest n e p
    passed_front rows e (refused f) p = tt

    passed_read : (r : Answer Rows) → pages.read page ≡ r → (w : Walk Rows) → PassedBy pages (page ∷ met) (pages.next page) w
        → PassedBy pages met page (read_then r w)
    passed_read (given rows) e w p = passed_front rows e w p
    passed_read (refused f) e w p = tt

  walk_passed : (fuel : ℕ) (met : List ℕ) (holder page : ℕ) → PassedBy pages met page (walk pages fuel met holder page)
  unfolding walk behind
  walk_passed zero met holder page = tt
  walk_passed (suc fuel) met holder page =
      step_holds pages fuel met holder page (PassedBy pages met page) (λ _. tt) tt (λ _ _ _. passed_none met page)
      (λ i m h. passed_read met page i m h (pages.read page) refl (behind pages fuel met holder page)
      (cond_holds (PassedBy pages (page ∷ met) (pages.next page)) (pages.is_last page)
      (λ _. passed_none (page ∷ met) (pages.next page))
      (λ _. walk_passed fuel (page ∷ met) page (pages.next page))))

  pub pages_passed : (first : ℕ) → PassedBy pages [] first (walk_from pages first)
  unfolding walk_from
  pages_passed first = walk_passed (suc pages.page_count) [] 0 first

  pub along_length : (n page : ℕ) → length (along pages.next n page) ≡ n
  unfolding along
  along_length zero page = refl
  along_length (suc n) page = ap suc (along_length n (pages.next page))

  pub pages_few : {page : ℕ} {met : List ℕ} {rows : Rows} {n : ℕ} → Passed pages met page rows n → n ≤ pages.page_count - 1
  pages_few {page} {n = n} p = omega (arith, along_length n page, few pages.page_count (along pages.next n page) p.distinct p.inside)
