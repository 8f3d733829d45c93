-- Rule 14.6: going through the sections of a file by their iterator: the answer is what is made of the sections left, and a broken one
-- refuses it. What is made of them is a function (`rest`), which may change from section to section.
use mathlib.Core.Path.{◌≡◌, refl, sym, ◌∙◌}
use mathlib.Core.List.{List, [], ◌∷◌}
use Prim.Native.Nat.{ℕ, ◌-◌}
use lib.ListN.{length}
use Rattle.std.specs.Prelude.{Option, None, Some, Result, Ok, Err}
use Rattle.lists.specs.Alias.{Bytes}
use Rattle.refusal.specs.Answer.{Answer, given, refused, and_then}
use Rattle.anlz.specs.declared.AnlzRefusal.{AnlzRefusal}
use Rattle.anlz.specs.declared.Section.{Section}
use Rattle.anlz.specs.declared.Sections.{Sections}
use Rattle.anlz.specs.Fault.{anlz_fault}
use Rattle.anlz.specs.Sections.{before, follow, sections_from, first_place, sections, next_of, NextSection}
use Rattle.anlz.proofs.FileStart.{sections_start}
use Rattle.anlz.proofs.StepsEnough.{sections_step}

-- what is made of the sections from a place on
abbrev made_from : {A : Type 0} (file : Bytes) (place : ℕ) (rest : List Section → Answer A) → Answer A
made_from file place rest = and_then (sections_from (length file - place) file place) rest

-- the whole answer is what is made of the sections that the iterator has left
pub record SectionsLeft {A : Type 0} (s : Sections) (whole : Answer A) (rest : List Section → Answer A) : Type 0 where
  pub made : whole ≡ made_from s.file.now s.cursor.place rest

pub left_begin : {A : Type 0} (s : Sections) (file : Bytes) (rest : List Section → Answer A) → given s.cursor.place ≡ first_place file
    → s.file.now ≡ file → SectionsLeft s (and_then (sections file) rest) rest
left_begin s file rest e h = record { made = rw (h, sections_start file e) }

made_more : {A : Type 0} (section : Section) (rest then : List Section → Answer A) → ((all : List Section) → rest (section ∷ all) ≡ then all)
    → (left : Answer (List Section)) → and_then (before section left) rest ≡ and_then left then
made_more section rest then e (given all) = e all
made_more section rest then e (refused f) = refl

module _ {A : Type 0} {s : Sections} {whole : Answer A} {rest : List Section → Answer A} (l : SectionsLeft s whole rest) (t : Sections) where
  step : (next : Option (Result Section AnlzRefusal)) → NextSection s.file.now s.cursor.place next t.file.now t.cursor.place
      → whole ≡ and_then (follow (next_of next) (λ (section : Section). before section (sections_from (length s.file.now - section.end) s.file.now section.end))) rest
  step next h = l.made ∙ rw (h.1, sections_step s.file.now s.cursor.place s.inside)

  pub left_end : NextSection s.file.now s.cursor.place None t.file.now t.cursor.place → rest [] ≡ whole
  left_end h = sym (step None h)

  pub left_broken : (refusal : AnlzRefusal) → NextSection s.file.now s.cursor.place (Some (Err refusal)) t.file.now t.cursor.place
      → refused (anlz_fault refusal) ≡ whole
  left_broken refusal h = sym (step (Some (Err refusal)) h)

  pub left_found : {section : Section} (then : List Section → Answer A) → NextSection s.file.now s.cursor.place (Some (Ok section)) t.file.now t.cursor.place
      → ((all : List Section) → rest (section ∷ all) ≡ then all) → SectionsLeft t whole then
  left_found {section} then h more =
      record { made = step (Some (Ok section)) h ∙ rw (h.0, h.2) (made_more section rest then more (sections_from (length s.file.now - section.end) s.file.now section.end)) }
