-- Rules 14.4 and 14.5: what stands at a place: the end of the file, a section whole inside it (section_whole), or a broken one.
use mathlib.Core.Path.{◌≡◌}
use mathlib.Core.Bool.{true, false}
use Rattle.std.specs.Prelude.{None, Some}
use Prim.Native.Nat.{ℕ, ◌+◌, ◌≤◌}
use native.Mathlib.Omega.{arith}
use lib.ListN.{length}
use lib.Dec.{leb}
use borrow.Author.Tests.{leb-true, eq-eqb, ne_eqb}
use Rattle.lists.specs.Alias.{Bytes}
use Rattle.lists.proofs.Choice.{both_true}
use Rattle.refusal.specs.Fault.{fault}
use Rattle.refusal.specs.Answer.{given, refused}
use Rattle.anlz.specs.Section.{section_holds, section_at, len_header, len_tag}
use Rattle.anlz.specs.Sections.{next_section}

-- the section at a place is whole, and has at least the 12 bytes of its envelope
pub record Whole (file : Bytes) (place : ℕ) : Type 0 where
  pub envelope : place + 12 ≤ length file
  pub least : 12 ≤ len_tag file place
  pub ends : place + len_tag file place ≤ length file

module _ (file : Bytes) (place : ℕ) where
  pub section_whole : section_holds file place ≡ true → Whole file place
  unfolding section_holds
  section_whole e =
      let first = both_true (leb (place + 12) (length file)) _ e in
      let second = both_true (leb 12 (len_header file place)) _ first.1 in
      let third = both_true (leb (len_header file place) (len_tag file place)) _ second.1 in
      record {
        envelope = leb-true _ _ first.0;
        least = omega (arith, leb-true 12 (len_header file place) second.0, leb-true (len_header file place) (len_tag file place) third.0);
        ends = leb-true _ _ third.1;
      }

  pub next_end : place ≡ length file → given None ≡ next_section file place
  unfolding next_section
  next_end e = rw (eq-eqb place (length file) e)

  pub next_broken : (place ≡ length file → ⊥) → section_holds file place ≡ false → refused (fault 21 0) ≡ next_section file place
  unfolding next_section
  next_broken n e = rw (ne_eqb place (length file) n, e)

  pub next_found : section_holds file place ≡ true → given (Some (section_at file place)) ≡ next_section file place
  unfolding next_section
  next_found e =
      let w = section_whole e in
      let n : place ≡ length file → ⊥ = λ q. omega (arith, w.envelope) in
      rw (ne_eqb place (length file) n, e)
