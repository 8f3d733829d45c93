-- Rule 5.19: element k of a list, counted from 0, or how many elements there are.
use Rattle.std.specs.Prelude.{cond, List, ℕ, ◌+◌, length, get_or, ltb}

pub data Nth (A : Type 0) : Type 0 where
  element : A → Nth A
  past : ℕ → Nth A

-- element k; where the list is too short, how many it has, with so many before them. none is any element: it is not looked at.
abbrev pub nth : {A : Type 0} (none : A) (list : List A) (k before : ℕ) → Nth A
nth none list k before = cond (ltb k (length list)) (element (get_or list k none)) (past (before + length list))
