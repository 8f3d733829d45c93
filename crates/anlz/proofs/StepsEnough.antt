-- Rule 14.5: the steps of `sections_from` never run out: with a step for each byte left, more steps change nothing (steps_enough), so
-- the sections from a place on are the one that starts there and those behind it (sections_step).
use mathlib.Core.Path.{◌≡◌, refl, sym, ◌∙◌}
use mathlib.Core.Bool.{true, false}
use mathlib.Core.List.{[]}
use Prim.Native.Nat.{ℕ, zero, suc, ◌+◌, ◌-◌, ◌≤◌}
use native.Mathlib.Omega.{arith}
use lib.ListN.{length}
use lib.Dec.{eqb}
use borrow.Author.Tests.{eqb-true, eqb-false}
use Rattle.lists.specs.Alias.{Bytes}
use Rattle.lists.proofs.Choice.{on}
use Rattle.refusal.specs.Fault.{fault}
use Rattle.refusal.specs.Answer.{given, refused}
use Rattle.anlz.specs.declared.Section.{Section}
use Rattle.anlz.specs.Section.{section_holds, section_at, len_tag}
use Rattle.anlz.specs.Sections.{next_section, follow, before, sections_from}
use Rattle.anlz.proofs.NextSection.{section_whole, next_end, next_broken, next_found}

-- the three things that can stand at a place
pub at_place {ℓ} : {P : Type ℓ} (file : Bytes) (place : ℕ)
    → (place ≡ length file → P) → ((place ≡ length file → ⊥) → section_holds file place ≡ false → P) → (section_holds file place ≡ true → P) → P
at_place file place end broken found =
    on (eqb place (length file))
    (λ e. end (eqb-true place (length file) e))
    (λ n. on (section_holds file place) found (broken (eqb-false place (length file) n)))

pub from_end : (file : Bytes) (left place : ℕ) → place ≡ length file → sections_from left file place ≡ given []
unfolding sections_from
from_end file zero place e = refl
from_end file (suc left) place e = rw (← next_end file place e)

module _ (file : Bytes) (left place : ℕ) where
  pub from_broken : (place ≡ length file → ⊥) → section_holds file place ≡ false → sections_from (suc left) file place ≡ refused (fault 21 0)
  unfolding sections_from
  from_broken n e = rw (← next_broken file place n e)

  pub from_found : section_holds file place ≡ true
      → sections_from (suc left) file place ≡ before (section_at file place) (sections_from left file (place + len_tag file place))
  unfolding sections_from
  from_found e = rw (← next_found file place e)

pub steps_enough : (file : Bytes) (a b place : ℕ) → place ≤ length file → length file - place ≤ a → length file - place ≤ b
    → sections_from a file place ≡ sections_from b file place
steps_enough file zero b place l h k = from_end file zero place (omega arith) ∙ sym (from_end file b place (omega arith))
steps_enough file (suc a) zero place l h k = from_end file (suc a) place (omega arith) ∙ sym (from_end file zero place (omega arith))
steps_enough file (suc a) (suc b) place l h k =
    at_place file place
    (λ e. from_end file (suc a) place e ∙ sym (from_end file (suc b) place e))
    (λ n e. from_broken file a place n e ∙ sym (from_broken file b place n e))
    (λ e.
    let w = section_whole file place e in
    let rest = steps_enough file a b (place + len_tag file place) w.ends (omega (arith, w.least)) (omega (arith, w.least)) in
    from_found file a place e ∙ rw rest (sym (from_found file b place e)))

-- the sections from a place on, without steps
pub sections_step : (file : Bytes) (place : ℕ) → place ≤ length file
    → sections_from (length file - place) file place
    ≡ follow (next_section file place) (λ (section : Section). before section (sections_from (length file - section.end) file section.end))
sections_step file place l =
    at_place file place
    (λ e. from_end file (length file - place) place e ∙ rw (← next_end file place e))
    (λ n e.
    let steps : length file - place ≡ suc (length file - place - 1) = omega arith in
    rw (steps, ← next_broken file place n e) (from_broken file (length file - place - 1) place n e))
    (λ e.
    let w = section_whole file place e in
    let steps : length file - place ≡ suc (length file - place - 1) = omega (arith, w.envelope) in
    let rest = steps_enough file (length file - place - 1) (length file - (place + len_tag file place)) (place + len_tag file place) w.ends (omega (arith, w.least)) (omega arith) in
    rw (steps, ← next_found file place e, ← rest) (from_found file (length file - place - 1) place e))
