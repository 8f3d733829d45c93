-- Rules 1.21, 2.23, 4.10, 13.2: numbers written to the front of a list.
use Rattle.std.specs.Prelude.{List, ℕ}
use Rattle.std.proofs.lemmas.List.Edits.{sets}

-- the list with these numbers at its front, as many as it takes; the rest stays
abbrev pub written : (list numbers : List ℕ) → List ℕ
written list numbers = sets list 0 numbers
