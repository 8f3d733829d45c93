-- Rule 14.5: the sections of a file fill it from the end of its header (`file_filled`).
use mathlib.Core.Path.{◌≡◌, refl, sym, ◌∙◌}
use mathlib.Core.List.{List}
use Prim.Native.Nat.{ℕ, zero, suc, ◌+◌, ◌-◌, ◌≤◌}
use native.Mathlib.Omega.{arith}
use lib.ListN.{length}
use Rattle.lists.specs.Alias.{Bytes}
use Rattle.lists.proofs.Choice.{never}
use Rattle.refusal.specs.Answer.{Answer, given, refused}
use Rattle.anlz.specs.declared.Section.{Section}
use Rattle.anlz.specs.Section.{section_at, len_tag}
use Rattle.anlz.specs.Header.{len_header}
use Rattle.anlz.specs.Sections.{sections, first_place, sections_from, before}
use Rattle.anlz.specs.SectionsFill.{SectionsFill, EveryFileFilled}
use Rattle.anlz.proofs.NextSection.{section_whole}
use Rattle.anlz.proofs.StepsEnough.{at_place, from_end, from_broken, from_found}
use Rattle.anlz.proofs.FileStart.{start_headed, start_inside, sections_start, sections_refused}

-- an answer's sections fill the bytes from a place up to an end; a refusal has none
abbrev FillIn : (place end : ℕ) → Answer (List Section) → Type 0
FillIn place end (given all) = SectionsFill place all end
FillIn place end (refused f) = Unit {0}

fill_before : (section : Section) (place end : ℕ) (rest : Answer (List Section)) → section.place ≡ place → place + 12 ≤ section.end
    → FillIn section.end end rest → FillIn place end (before section rest)
fill_before section place end (given all) e l t = (e, l, t)
fill_before section place end (refused f) e l t = tt

fill_from : (file : Bytes) (left place : ℕ) → place ≤ length file → length file - place ≤ left
    → FillIn place (length file) (sections_from left file place)
fill_from file zero place l h =
    let e : place ≡ length file = omega arith in
    rw (from_end file zero place e) e
fill_from file (suc left) place l h =
    at_place file place
    (λ e. rw (from_end file (suc left) place e) e)
    (λ n e. rw (from_broken file left place n e) tt)
    (λ e.
    let w = section_whole file place e in
    let end = place + len_tag file place in
    let rest = fill_from file left end w.ends (omega (arith, w.least)) in
    rw (from_found file left place e)
    (fill_before (section_at file place) place (length file) (sections_from left file end) refl (omega (arith, w.least)) rest))

-- the answer is a list, so the header holds
start_of : (file : Bytes) (start : Answer ℕ) (all : List Section) → start ≡ first_place file → sections file ≡ given all → SectionsFill (len_header file) all (length file)
start_of file (given place) all e k =
    let s = start_headed file e in
    rw (sym (sections_start file e) ∙ k, s.1) at (fill_from file (length file - place) place (start_inside file e) (omega arith))
start_of file (refused f) all e k = never (cc (sym (sections_refused file e) ∙ k))

pub file_filled : EveryFileFilled
file_filled file all k = start_of file (first_place file) all refl k
