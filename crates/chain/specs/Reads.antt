-- Rule 7.3: the pages that a walk reads.
use Rattle.std.specs.Prelude.{Bool, true, false, not, ◌&&◌, ◌||◌, List, [], ◌∷◌, ℕ, zero, suc, eqb}
use Rattle.lists.specs.Member.{is_member}
use Rattle.format.specs.Place.{linkable}
use Rattle.refusal.specs.Answer.{Answer, given, refused}
use Rattle.chain.specs.Walk.{Pages}

abbrev pub is_given : {A : Type 0} → Answer A → Bool
is_given (given x) = true
is_given (refused f) = false

-- the walk comes to the page and reads it
unfoldable pub comes_to : (pages : Pages) (met : List ℕ) (page : ℕ) → Bool
comes_to pages met page = linkable pages.page_count page && (not (is_member page met) && pages.held page)

-- the walk goes on behind the page
unfoldable pub goes_on : Pages → ℕ → Bool
goes_on pages page = is_given (pages.read page) && not (pages.is_last page)

-- page q is one that the walk reads, from this page on
unfoldable pub reads : (pages : Pages) (fuel : ℕ) (met : List ℕ) (page q : ℕ) → Bool
reads pages zero met page q = false
reads pages (suc fuel) met page q =
    comes_to pages met page && (eqb q page || (goes_on pages page && reads pages fuel (page ∷ met) (pages.next page) q))

unfoldable pub reads_from : (pages : Pages) (first q : ℕ) → Bool
reads_from pages first q = reads pages (suc pages.page_count) [] first q
