-- Rule 14.8: the first section of an ANLZ file that has a code, if there is one. All sections are judged, also those behind it.
use Rattle.std.specs.Prelude.{cond, List, [], ◌∷◌, ℕ, eqb, Option, None, Some}
use Rattle.lists.specs.Alias.{Bytes}
use Rattle.refusal.specs.Answer.{Answer, given, and_then}
use Rattle.anlz.specs.declared.Section.{Section}
use Rattle.anlz.specs.Sections.{sections}

unfoldable pub first_with : (code : ℕ) → List Section → Option Section
first_with code [] = None
first_with code (section ∷ rest) = cond (eqb section.code code) (Some section) (first_with code rest)

unfoldable pub first_section : (file : Bytes) (code : ℕ) → Answer (Option Section)
first_section file code = and_then (sections file) (λ (all : List Section). given (first_with code all))
