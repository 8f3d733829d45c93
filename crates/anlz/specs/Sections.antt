-- Rules 14.5 and 14.6: the sections of an ANLZ file in file order, or the refusal.
use Rattle.std.specs.Prelude.{◌≡◌, not, cond, List, [], ◌∷◌, ℕ, zero, suc, ◌-◌, length, eqb, Option, None, Some, Result, Ok, Err}
use Rattle.lists.specs.Alias.{Bytes}
use Rattle.refusal.specs.Fault.{fault}
use Rattle.refusal.specs.Answer.{Answer, given, refused, refuse_if, and_then}
use Rattle.anlz.specs.declared.AnlzRefusal.{AnlzRefusal}
use Rattle.anlz.specs.declared.Section.{Section}
use Rattle.anlz.specs.Fault.{anlz_fault}
use Rattle.anlz.specs.Header.{header_holds, len_header}
use Rattle.anlz.specs.Section.{section_holds, section_at}

-- Rule 14.5: none where the file ends at a place, else the section that starts there
unfoldable pub next_section : (file : Bytes) (place : ℕ) → Answer (Option Section)
next_section file place =
    cond (eqb place (length file)) (given None)
    (refuse_if (not (section_holds file place)) (fault 21 0)
    (given (Some (section_at file place))))

-- the end gives no section, a section goes on with the rest, a refusal stays
abbrev pub follow : (next : Answer (Option Section)) (rest : Section → Answer (List Section)) → Answer (List Section)
follow (given None) rest = given []
follow (given (Some section)) rest = rest section
follow (refused f) rest = refused f

-- a section in front of those behind it
abbrev pub before : Section → Answer (List Section) → Answer (List Section)
before section rest = and_then rest (λ (sections : List Section). given (section ∷ sections))

-- the sections from a place on. A section has bytes, so with a step for each byte the steps suffice (law `sections-step`)
unfoldable pub sections_from : (left : ℕ) (file : Bytes) (place : ℕ) → Answer (List Section)
sections_from zero file place = given []
sections_from (suc left) file place =
    follow (next_section file place) (λ (section : Section). before section (sections_from left file section.end))

-- Rules 14.2 and 14.5: where the sections start
unfoldable pub first_place : (file : Bytes) → Answer ℕ
first_place file = refuse_if (not (header_holds file)) (fault 20 0) (given (len_header file))

-- Rule 14.6: all sections of the file
unfoldable pub sections : (file : Bytes) → Answer (List Section)
sections file = and_then (first_place file) (λ (place : ℕ). sections_from (length file - place) file place)

-- what an iterator over the sections gives as its next: nothing at the end, a section, or a refusal
abbrev pub next_of : Option (Result Section AnlzRefusal) → Answer (Option Section)
next_of None = given None
next_of (Some (Ok section)) = given (Some section)
next_of (Some (Err refusal)) = refused (anlz_fault refusal)

-- where it stands then: behind the section, or at the end
abbrev pub behind : (end : ℕ) → Option (Result Section AnlzRefusal) → ℕ
behind end None = end
behind end (Some (Ok section)) = section.end
behind end (Some (Err refusal)) = end

-- it goes through the same file, gives the section at its place, and stands behind it then
abbrev pub NextSection : (file : Bytes) (place : ℕ) (next : Option (Result Section AnlzRefusal)) (file' : Bytes) (place' : ℕ) → Type 0
NextSection file place next file' place' = (file' ≡ file) × (next_of next ≡ next_section file place) × (place' ≡ behind (length file) next)
