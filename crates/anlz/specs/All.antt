-- Rule 14.20: every section of an ANLZ file that has a code, in file order.
use Rattle.std.specs.Prelude.{cond, List, [], ◌∷◌, ℕ, eqb}
use Rattle.anlz.specs.declared.Section.{Section}

unfoldable pub all_with : (code : ℕ) → List Section → List Section
all_with code [] = []
all_with code (section ∷ rest) = cond (eqb section.code code) (section ∷ all_with code rest) (all_with code rest)
