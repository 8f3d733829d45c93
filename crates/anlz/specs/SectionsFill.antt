-- Rule 14.5 as a statement about the list of sections: they follow one another without a gap, and the last ends where the file ends.
use Rattle.std.specs.Prelude.{◌≡◌, List, [], ◌∷◌, ℕ, ◌+◌, ◌≤◌, length}
use Rattle.lists.specs.Alias.{Bytes}
use Rattle.refusal.specs.Answer.{given}
use Rattle.anlz.specs.declared.Section.{Section}
use Rattle.anlz.specs.Header.{envelope, len_header}
use Rattle.anlz.specs.Sections.{sections}

-- these sections fill the bytes from a place up to an end, each with its envelope
abbrev pub SectionsFill : (place : ℕ) (all : List Section) (end : ℕ) → Type 0
SectionsFill place [] end = place ≡ end
SectionsFill place (section ∷ rest) end = (section.place ≡ place) × (place + envelope ≤ section.end) × SectionsFill section.end rest end

-- for every file whose sections are all good
abbrev pub EveryFileFilled : Type 0
EveryFileFilled = (file : Bytes) (all : List Section) → sections file ≡ given all → SectionsFill (len_header file) all (length file)
