-- Rule 6.6: a text that is found lies inside the part that was read, behind the string's start; a string that is refused is 15.
use mathlib.Core.Path.{◌≡◌, refl}
use mathlib.Core.Bool.{true, not, ◌&&◌, ◌||◌}
use Rattle.std.specs.Prelude.{Option, Some, None}
use Prim.Native.Nat.{ℕ, ◌+◌, ◌-◌, ◌<◌, ◌≤◌, ◌%◌}
use native.Mathlib.Omega.{arith}
use lib.ListN.{length, drop, length-take, length-drop}
use lib.Dec.{leb, eqb}
use borrow.Author.Tests.{leb-true, leb-false, not-false}
use Rattle.lists.specs.Alias.{Bytes}
use Rattle.lists.specs.Subslice.{subslice}
use Rattle.lists.proofs.Choice.{on, cond_holds, both_true}
use Rattle.number.specs.Number.{byte_at}
use Rattle.refusal.specs.Fault.{fault}
use Rattle.refusal.specs.Answer.{Answer, given, refused}
use Rattle.table.specs.declared.Table.{Table}
use Rattle.text.specs.Code.{is_code, code_length}
use Rattle.text.specs.Text.{TextAt, is_short, is_long, head_size, whole_size, is_inside, plain_text, code_text, text_in, text_by_kind, read_text}
use Rattle.text.proofs.FirstZero.{AmongThem, zero_inside}

-- what holds of a string of s at an offset
abbrev pub Inside : (s : Bytes) (at : ℕ) (found : Answer TextAt) → Type 0
Inside s at (given text) = (at < text.place) × (text.place + text.len ≤ length s)
Inside s at (refused f) = f ≡ fault 15 0

pub head_some : (first : ℕ) → 0 < head_size first
unfolding head_size
head_some first = on (is_long first) (λ e. rw e (omega arith)) (λ e. rw e (omega arith))

pub inside_fits : (s : Bytes) (at head whole : ℕ) → is_inside s at head whole ≡ true → (head ≤ whole) × (whole ≤ length s - at)
unfolding is_inside
inside_fits s at head whole e =
    let head_fits = leb head (length s - at) in
    let whole_fits = leb whole (length s - at) in
    let both = both_true (leb head whole) (head_fits && whole_fits) e in
    (leb-true head whole both.0, leb-true whole (length s - at) (both_true head_fits whole_fits both.1).1)

module _ (s : Bytes) (at : ℕ) where
  code_inside : (whole : ℕ) → Inside s at (code_text (at + 5) (code_length s at whole))
  unfolding code_length
  code_inside whole = go (code_length s at whole) (zero_inside (subslice s (at + 5) (at + whole)) 0)
    where
      part : Bytes
      part = subslice s (at + 5) (at + whole)

      short : length part ≤ length s - (at + 5)
      short = omega (arith, length-take (at + whole - (at + 5)) (drop (at + 5) s), length-drop (at + 5) s)

      go : (len : Option ℕ) → AmongThem part 0 len → Inside s at (code_text (at + 5) len)
      go (Some n) h = omega (arith, short)
      go None h = refl

  plain_inside : (first whole : ℕ) → at < length s → head_size first ≤ whole → whole ≤ length s - at → Inside s at (plain_text at first whole)
  unfolding plain_text
  plain_inside first whole h p q =
      cond_holds (Inside s at) (eqb first 0x90 && eqb (whole % 2) 1) (λ _. refl) (λ _. omega (arith, head_some first))

  text_inside : (table : Table) (slot first whole : ℕ) → at < length s → head_size first ≤ whole → whole ≤ length s - at
      → Inside s at (text_in table slot s at first whole)
  unfolding text_in
  text_inside table slot first whole h p q =
      cond_holds (Inside s at) (is_code table slot first whole (byte_at s (at + 4))) (λ _. code_inside whole) (λ _. plain_inside first whole h p q)

pub read_inside : (table : Table) (slot : ℕ) (s : Bytes) (at : ℕ) → Inside s at (read_text table slot s at)
unfolding read_text
read_inside table slot s at = cond_holds (Inside s at) (leb (length s) at) (λ _. refl) (λ e. kinds (byte_at s at) (leb-false (length s) at e))
  where
    kinds : (first : ℕ) → at < length s → Inside s at (text_by_kind table slot s at first)
    kinds first h =
        let head = head_size first in
        let whole = whole_size s at first in
        cond_holds (Inside s at) (not (is_short first || is_long first)) (λ _. refl)
        (λ _. cond_holds (Inside s at) (not (is_inside s at head whole)) (λ _. refl)
        (λ e. let fits = inside_fits s at head whole (not-false _ e) in text_inside s at table slot first whole h fits.0 fits.1))
