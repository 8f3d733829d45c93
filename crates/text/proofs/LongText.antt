-- A long string (kind `40` or `90`), once its size is read: what `text_by_kind` makes of it.
use mathlib.Core.Path.{◌≡◌, refl, sym, ◌∙◌}
use mathlib.Core.Bool.{true, false, or-true}
use Prim.Native.Nat.{ℕ, ◌+◌, ◌%◌}
use borrow.Author.Tests.{eqb-true, ne_eqb, eq-eqb}
use Rattle.lists.specs.Alias.{Bytes}
use Rattle.number.specs.Number.{byte_at, le16}
use Rattle.refusal.specs.Fault.{fault}
use Rattle.refusal.specs.Answer.{Answer, given, refused}
use Rattle.table.specs.declared.Table.{Table}
use Rattle.text.specs.declared.Encoding.TheVariants.{Ascii, Utf16}
use Rattle.text.specs.Code.{is_code, code_length}
use Rattle.text.specs.Text.{TextAt, is_short, is_long, head_size, whole_size, is_inside, rest_behind, code_text, plain_text, text_in, text_by_kind}

module _ (table : Table) (slot : ℕ) (s : Bytes) (at first : ℕ) {whole : ℕ} (long : is_long first ≡ true) (w : whole ≡ le16 s (at + 1)) where
  pub outside : is_inside s at 4 whole ≡ false → refused (fault 15 0) ≡ text_by_kind table slot s at first
  unfolding head_size whole_size
  outside e = rw (long, or-true (is_short first), ← w, e)

  module _ (inside : is_inside s at 4 whole ≡ true) where
    text_of : text_by_kind table slot s at first ≡ text_in table slot s at first whole
    unfolding head_size whole_size
    text_of = rw (long, or-true (is_short first), ← w, inside)

    pub ascii : first ≡ 0x40 → given (rest_behind at 4 whole Ascii) ≡ text_by_kind table slot s at first
    unfolding head_size is_code plain_text text_in
    ascii k = sym (text_of ∙ rw k refl)

    -- the other kind
    is_90 : (first ≡ 0x40 → ⊥) → first ≡ 0x90
    is_90 k = eqb-true first 0x90 (rw (ne_eqb first 0x40 k) at long)

    module _ (k : first ≡ 0x40 → ⊥) where
      pub code : {answer : Answer TextAt} → is_code table slot 0x90 whole (byte_at s (at + 4)) ≡ true → answer ≡ code_text (at + 5) (code_length s at whole)
          → answer ≡ text_by_kind table slot s at first
      unfolding text_in
      code e t = t ∙ sym (text_of ∙ rw (is_90 k, e) refl)

      module _ (e : is_code table slot 0x90 whole (byte_at s (at + 4)) ≡ false) where
        pub odd : whole % 2 ≡ 1 → refused (fault 15 0) ≡ text_by_kind table slot s at first
        unfolding head_size plain_text text_in
        odd p = sym (text_of ∙ rw (is_90 k, e, eq-eqb _ _ p) refl)

        pub even : (whole % 2 ≡ 1 → ⊥) → given (rest_behind at 4 whole Utf16) ≡ text_by_kind table slot s at first
        unfolding head_size plain_text text_in
        even p = sym (text_of ∙ rw (is_90 k, e, ne_eqb _ _ p) refl)
