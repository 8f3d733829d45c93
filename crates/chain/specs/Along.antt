-- The pages of a chain in the order in which the walk comes to them (rules 4.6, 4.9), and their rows in that order (rule 4.10).
use Rattle.std.specs.Prelude.{List, [], ◌∷◌, ◌++◌, ℕ, zero, suc}

-- the first k pages from this page on; next gives a page's next_page
unfoldable pub along : (next : ℕ → ℕ) (k page : ℕ) → List ℕ
along next zero page = []
along next (suc k) page = page ∷ along next k (next page)

-- the rows of the first k pages from this page on, or their places
unfoldable pub rows_along : {A : Type 0} (next : ℕ → ℕ) (rows : ℕ → List A) (k page : ℕ) → List A
rows_along next rows zero page = []
rows_along next rows (suc k) page = rows page ++ rows_along next rows k (next page)
