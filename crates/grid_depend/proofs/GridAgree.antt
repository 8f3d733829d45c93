-- Rules 14.17 and 14.18: where the bytes of a tag that pass a test decide an answer, so do the envelopes of a file and those bytes of its
-- grid (`grid_agree`). Rests on the sections of files that agree on the envelopes (anlz/SectionsAgree).
use mathlib.Core.Path.{◌≡◌, refl}
use mathlib.Core.Bool.{Bool}
use mathlib.Core.List.{List}
use Prim.Native.Nat.{ℕ}
use Rattle.lists.specs.Alias.{Bytes}
use Rattle.lists.proofs.Choice.{or_left, or_right}
use Rattle.number.specs.Agree.{Agree, DecidedBy}
use Rattle.number.proofs.NumberAgree.{agree_less}
use Rattle.refusal.specs.Answer.{Answer, given, refused, and_then}
use Rattle.anlz.specs.declared.Section.{Section}
use Rattle.anlz.specs.Section.{tag_of}
use Rattle.anlz.specs.First.{first_section}
use Rattle.anlz.specs.Bytes.{envelope_byte}
use Rattle.anlz.proofs.SectionsAgree.{first_agree, tag_bytes_agree}
use Rattle.beat_grid.specs.declared.GridBeat.{GridBeat}
use Rattle.beat_grid.specs.Grid.{pqtz, grid_in, needed, grid_section, grid}
use Rattle.grid_depend.specs.Bytes.{in_grid, relevant}

module _ {A : Type 0} (test : Bytes → ℕ → Bool) (rest : List GridBeat → Answer A)
    (tags : (tag : Bytes) → DecidedBy (test tag) (λ (other : Bytes). and_then (grid_in other) rest) tag) where
  section_agree : (s t : Bytes) (section : Answer Section) → Agree (in_grid test s section) s t
      → and_then (and_then section (λ (x : Section). grid_in (tag_of s x))) rest ≡ and_then (and_then section (λ (x : Section). grid_in (tag_of t x))) rest
  section_agree s t (given section) a = tags (tag_of s section) (tag_of t section) (tag_bytes_agree test section a)
  section_agree s t (refused f) a = refl

  pub grid_agree : (file : Bytes) → DecidedBy (relevant test file) (λ (other : Bytes). and_then (grid other) rest) file
  unfolding relevant grid grid_section
  grid_agree s t a =
      rw (← first_agree (agree_less (λ i e. or_left _ e) a) pqtz)
      (section_agree s t (and_then (first_section s pqtz) needed) (agree_less (λ i e. or_right (envelope_byte s i) e) a))
