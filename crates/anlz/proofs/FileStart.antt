-- Rules 14.2 and 14.3: where the sections start, and that a file of 2^32 bytes and more is refused (`long_refused`).
use mathlib.Core.Path.{◌≡◌}
use mathlib.Core.Bool.{true}
use Prim.Native.Nat.{ℕ, ◌-◌, ◌≤◌}
use native.Mathlib.Omega.{arith}
use lib.ListN.{length}
use lib.Dec.{leb, eqb}
use borrow.Author.Tests.{leb-true, eqb-true}
use Rattle.lists.specs.Alias.{Bytes}
use Rattle.lists.proofs.Choice.{on, never, both_true}
use Rattle.number.proofs.Number.{be32_fits}
use Rattle.refusal.specs.declared.Fault.{Fault}
use Rattle.refusal.specs.Answer.{given, refused}
use Rattle.anlz.specs.Header.{header_holds, pmai, file_code, len_header, len_file}
use Rattle.anlz.specs.Sections.{first_place, sections, sections_from}
use Rattle.anlz.specs.Long.{EveryLongFile}
use Rattle.anlz.specs.First.{first_section}

-- what a header that holds says of the file
pub record Headed (file : Bytes) : Type 0 where
  pub long : len_file file ≡ length file
  pub least : 12 ≤ len_header file
  pub most : len_header file ≤ length file

module _ (file : Bytes) where
  pub headed : header_holds file ≡ true → Headed file
  unfolding header_holds
  headed e =
      let first = both_true (leb 12 (length file)) _ e in
      let second = both_true (eqb (file_code file) pmai) _ first.1 in
      let third = both_true (eqb (len_file file) (length file)) _ second.1 in
      let fourth = both_true (leb 12 (len_header file)) _ third.1 in
      let long = eqb-true (len_file file) (length file) third.0 in
      record {
        long = long;
        least = leb-true _ _ fourth.0;
        most = omega (arith, long, leb-true (len_header file) (len_file file) fourth.1);
      }

  pub start_headed : {place : ℕ} → given place ≡ first_place file → Headed file × (place ≡ len_header file)
  unfolding first_place
  start_headed e =
      on (header_holds file)
      (λ h. (headed h, cc (rw h at e)))
      (λ h. never (cc (rw h at e)))

  pub start_inside : {place : ℕ} → given place ≡ first_place file → place ≤ length file
  start_inside e = let s = start_headed e in omega (arith, s.0.most, s.1)

  pub sections_start : {place : ℕ} → given place ≡ first_place file → sections file ≡ sections_from (length file - place) file place
  unfolding sections
  sections_start e = rw (← e)

  pub sections_refused : {f : Fault} → refused f ≡ first_place file → sections file ≡ refused f
  unfolding sections
  sections_refused e = rw (← e)

  pub first_refused : {f : Fault} (code : ℕ) → refused f ≡ first_place file → refused f ≡ first_section file code
  unfolding first_section
  first_refused code e = rw (sections_refused e)

pub long_refused : EveryLongFile
unfolding sections first_place
long_refused file low h =
    on (header_holds file)
    (λ e. let long = (headed file e).long in absurd (omega (arith, long, be32_fits file 0x08 low)))
    (λ e. rw e)
