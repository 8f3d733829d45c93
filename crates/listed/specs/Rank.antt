-- Rule 5.30: the rank of an element of a list. Two index entries may name one row; the rank tells them apart.
use Rattle.std.specs.Prelude.{cond, ℕ, zero, suc, ◌+◌, ◌/◌, get_or, eqb}
use Rattle.lists.specs.Alias.{Places}

-- the page of element i, where pages have size bytes
abbrev pub page_of : (size : ℕ) (list : Places) (i : ℕ) → ℕ
page_of size list i = get_or list i 0 / size

-- how many of the places directly before element i lie on this page
unfoldable pub run_before : (size : ℕ) (list : Places) (page i : ℕ) → ℕ
run_before size list page zero = 0
run_before size list page (suc i) = cond (eqb (page_of size list i) page) (run_before size list page i + 1) 0

-- how many of them lie on its own page
unfoldable pub rank : (size : ℕ) (list : Places) (i : ℕ) → ℕ
rank size list i = run_before size list (page_of size list i) i
