-- The walk along a table's pages, over an abstract page layer; specs/File gives the layer of a file.
-- Rules 4.1 to 4.8.
use Rattle.std.specs.Prelude.{Bool, cond, not, List, [], ◌∷◌, ◌++◌, ℕ, zero, suc, ◌+◌}
use Rattle.lists.specs.Member.{is_member}
use Rattle.format.specs.Place.{linkable}
use Rattle.refusal.specs.Fault.{fault}
use Rattle.refusal.specs.Answer.{Answer, given, refused, refuse_if, and_then}
use Rattle.page.specs.Found.{Rows}

-- what the walk asks of the pages: P, and of each page whether it is last_page, whether it is held, what reading it gives, and its next_page
pub record Pages : Type 0 where
  pub page_count : ℕ
  pub is_last : ℕ → Bool
  pub held : ℕ → Bool
  pub read : ℕ → Answer Rows
  pub next : ℕ → ℕ

-- Rule 4.8: how far a walk comes, with the rows found (or their number) and the number of pages walked
pub data Progress (A : Type 0) : Type 0 where
  full : (rows : A) (pages : ℕ) → Progress A
  waiting : (page : ℕ) (rows : A) (pages : ℕ) → Progress A

abbrev pub Walk : Type 0 → Type 0
Walk A = Answer (Progress A)

-- Rule 4.5: a page's rows stand in front of what the rest finds, and it is one more page walked
abbrev pub in_front : Rows → Walk Rows → Walk Rows
in_front rows (given (full rest pages)) = given (full (rows ++ rest) (pages + 1))
in_front rows (given (waiting page rest pages)) = given (waiting page (rows ++ rest) (pages + 1))
in_front rows (refused f) = refused f

-- Rules 4.2 to 4.7, in this order. holder is the page of the link, 0 for the directory. The fuel never runs out (proofs/FuelEnough).
unfoldable pub walk : (pages : Pages) (fuel : ℕ) (met : List ℕ) (holder page : ℕ) → Walk Rows
walk pages zero met holder page = refused (fault 16 0)
walk pages (suc fuel) met holder page =
    refuse_if (not (linkable pages.page_count page)) (fault 11 holder)
    (refuse_if (is_member page met) (fault 16 0)
    (cond (not (pages.held page)) (given (waiting page [] 0))
    (and_then (pages.read page) (λ rows. in_front rows
    (cond (pages.is_last page) (given (full [] 0))
    (walk pages fuel (page ∷ met) page (pages.next page)))))))

-- Rule 4.1
unfoldable pub walk_from : Pages → ℕ → Walk Rows
walk_from pages first = walk pages (suc pages.page_count) [] 0 first
