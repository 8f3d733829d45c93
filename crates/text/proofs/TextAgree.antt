-- Rules 7.6, 7.15: two parts of one length that agree on a string's relevant bytes have the same string there.
use mathlib.Core.Path.{◌≡◌, refl}
use mathlib.Core.Bool.{true, false, not, ◌||◌, and-false}
use Prim.Native.Nat.{ℕ, ◌+◌, ◌-◌, ◌<◌, ◌≤◌}
use native.Mathlib.Omega.{arith}
use lib.ListN.{length}
use lib.Seq.{ext_get_or}
use lib.Dec.{leb}
use borrow.Author.Tests.{leb-true, not-false}
use Rattle.lists.specs.Alias.{Bytes}
use Rattle.lists.specs.Subslice.{subslice}
use Rattle.lists.proofs.Choice.{on, cond_agree, or_right}
use Rattle.number.specs.Number.{byte_at}
use Rattle.number.specs.Agree.{Agree, within}
use Rattle.number.proofs.NumberAgree.{agree_less, within_true, within_less, part_agree, le16_agree}
use Rattle.table.specs.declared.Table.{Table}
use Rattle.text.specs.Code.{may_be_code, is_code, code_length}
use Rattle.text.specs.Text.{is_short, is_long, head_size, whole_size, is_inside, text_in, read_text}
use Rattle.text.specs.Bytes.{in_text, code_byte, text_byte}
use Rattle.text.proofs.TextInside.{head_some}

head_four : (first : ℕ) → is_long first ≡ true → head_size first ≡ 4
unfolding head_size
head_four first e = rw e

-- parts that agree on a run of bytes have it in common
run_same : {s t : Bytes} (from size start end : ℕ) → from ≤ start → end ≤ from + size → Agree (within from size) s t
    → subslice s start end ≡ subslice t start end
run_same {s} {t} from size start end h k a =
    let parts : Agree (λ _. true) (subslice s start end) (subslice t start end) = part_agree start (end - start) inside a in
    ext_get_or 0 (subslice s start end) (subslice t start end) parts.long (λ i _. parts.same i refl)
  where
    inside : (i : ℕ) → i < end - start → true ≡ true → within from size (start + i) ≡ true
    inside i l e = within_true from size (start + i) (omega arith) (omega arith)

module _ (table : Table) (slot : ℕ) where
  -- a string's head is among its bytes
  pub head_byte : (s : Bytes) (at i : ℕ) → within at (head_size (byte_at s at)) i ≡ true → text_byte table slot s at i ≡ true
  unfolding text_byte
  head_byte s at i e = rw e

  -- so is all of it, where it may be a code and lies inside
  whole_byte : (s : Bytes) (at i : ℕ) → may_be_code table slot (byte_at s at) ≡ true
      → is_inside s at (head_size (byte_at s at)) (whole_size s at (byte_at s at)) ≡ true → within at (whole_size s at (byte_at s at)) i ≡ true
      → text_byte table slot s at i ≡ true
  unfolding text_byte code_byte
  whole_byte s at i p q e =
      or_right (within at (head_size (byte_at s at)) i) (or_right (in_text (read_text table slot s at) i) (rw (p, q, e)))

  -- fewer than 5 bytes are no code
  pub short_code : (first whole behind : ℕ) → leb 5 whole ≡ false → is_code table slot first whole behind ≡ false
  unfolding is_code
  short_code first whole behind e = rw (e, and-false (may_be_code table slot first))

  module _ {s t : Bytes} (at : ℕ) (a : Agree (text_byte table slot s at) s t) where
    first_agree : byte_at s at ≡ byte_at t at
    first_agree = a.same at (head_byte s at at (within_true at _ at (omega arith) (omega (arith, head_some (byte_at s at)))))

    whole_agree : whole_size s at (byte_at s at) ≡ whole_size t at (byte_at s at)
    unfolding whole_size
    whole_agree = cond_agree (is_long (byte_at s at)) (λ e. le16_agree (at + 1) (agree_less (inside e) a)) (λ _. refl)
      where
        inside : is_long (byte_at s at) ≡ true → (i : ℕ) → within (at + 1) 2 i ≡ true → text_byte table slot s at i ≡ true
        inside e i h = head_byte s at i (rw (head_four (byte_at s at) e) (within_less (at + 1) 2 at 4 i (omega arith) (omega arith) h))

    -- a string that may be a code: all of it is the same
    code_agree : (whole : ℕ) → Agree (within at whole) s t → text_in table slot s at (byte_at s at) whole ≡ text_in table slot t at (byte_at s at) whole
    unfolding text_in code_length
    code_agree whole b = on (leb 5 whole) long (λ e. rw (short_code first whole (byte_at s (at + 4)) e, short_code first whole (byte_at t (at + 4)) e))
      where
        first : ℕ
        first = byte_at s at

        long : leb 5 whole ≡ true → text_in table slot s at first whole ≡ text_in table slot t at first whole
        long e =
            let l = leb-true 5 whole e in
            let mark = b.same (at + 4) (within_true at whole (at + 4) (omega arith) (omega arith)) in
            rw (mark, run_same at whole (at + 5) (at + whole) (omega arith) (omega arith) b)

    -- its text, where it lies inside
    in_agree : is_inside s at (head_size (byte_at s at)) (whole_size s at (byte_at s at)) ≡ true
        → text_in table slot s at (byte_at s at) (whole_size s at (byte_at s at)) ≡ text_in table slot t at (byte_at s at) (whole_size s at (byte_at s at))
    unfolding text_in is_code
    in_agree q =
        on (may_be_code table slot (byte_at s at))
        (λ e. code_agree (whole_size s at (byte_at s at)) (agree_less (λ i h. whole_byte s at i e q h) a))
        (λ e. rw e)

    pub text_agree : read_text table slot s at ≡ read_text table slot t at
    unfolding read_text is_inside
    text_agree =
        rw (← first_agree, ← whole_agree, ← a.long)
        (cond_agree (leb (length s) at) (λ _. refl)
        (λ _. cond_agree (not (is_short (byte_at s at) || is_long (byte_at s at))) (λ _. refl)
        (λ _. cond_agree _ (λ _. refl) (λ e. in_agree (not-false _ e)))))
