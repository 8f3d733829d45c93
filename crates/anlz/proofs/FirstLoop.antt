-- Rule 14.8: going through the sections for the first with a code (SectionsLoop): the answer is what was found so far, else the first among
-- those left.
use mathlib.Core.Path.{◌≡◌, refl}
use mathlib.Core.Bool.{Bool, true, false, cond}
use mathlib.Core.List.{List, [], ◌∷◌}
use Rattle.std.specs.Prelude.{Option, None, Some}
use Prim.Native.Nat.{ℕ}
use lib.Dec.{eqb}
use Rattle.std.specs.Option.{option_or}
use Rattle.refusal.specs.Answer.{Answer, given}
use Rattle.anlz.specs.declared.Section.{Section}
use Rattle.anlz.specs.First.{first_with}

-- the answer, where so much is found and these sections are left
unfoldable pub found_among : (code : ℕ) (found : Option Section) → List Section → Answer (Option Section)
found_among code found all = given (option_or found (first_with code all))

pub found_all : (code : ℕ) (found : Option Section) → found_among code found [] ≡ given found
unfolding found_among first_with
found_all code None = refl
found_all code (Some section) = refl

else_more : (t : Bool) (section : Section) (found next : Option Section)
    → option_or found (cond t (Some section) next) ≡ option_or (option_or found (cond t (Some section) None)) next
else_more true section None next = refl
else_more false section None next = refl
else_more t section (Some s) next = refl

pub found_more : (code : ℕ) (found : Option Section) {then : Option Section} (section : Section)
    → then ≡ option_or found (cond (eqb section.code code) (Some section) None) → (all : List Section) → found_among code found (section ∷ all) ≡ found_among code then all
unfolding found_among first_with
found_more code found section e all = rw (e, ← else_more (eqb section.code code) section found (first_with code all))
