-- The loop of `has_type_twice`, which keeps a word of the types that it has seen, and the word's digits (specs/Private). Rule 3.7.
--     types_none, types_next     the word of no pointer's type; with the type of one pointer more
--     twice_begin                the loop begins
--     twice_here, twice_next     pointer i has the type of one before it; it has not
--     twice_end                  no pointer is left
-- Rests on the digits of one word (crate `bitmap`, proofs/Digit) and on the invariant of a loop that looks for a pointer (crate `lists`, proofs/Any).
use mathlib.Core.Path.{◌≡◌, refl, sym, ◌∙◌}
use mathlib.Core.Bool.{Bool, true, false, ◌||◌, or-true, or-false}
use Prim.Native.Nat.{ℕ, ◌+◌, ◌<◌, ◌≤◌}
use native.Mathlib.Nat.{zero-add}
use lib.Dec.{eqb, ltb}
use borrow.Author.Tests.{lt-ltb, eqb-true, eqb-false}
use Rattle.lists.specs.Alias.{Bytes}
use Rattle.lists.specs.Any.{any_from}
use Rattle.lists.proofs.Choice.{on}
use Rattle.lists.proofs.Any.{Looking, look_begin, look_here, look_next, look_end, any_last}
use Rattle.bitmap.specs.Bit.{digit}
use Rattle.bitmap.proofs.Digit.{digit_zero, digit_set, digit_other}
use Rattle.directory.specs.Header.{type, has_type, type_twice}
use Rattle.directory.specs.Private.{TypesIn, with_type}

-- the digit of the type added is 1, every other is as before
with_own : (word t : ℕ) → t < 64 → digit (with_type word t) t ≡ 1
unfolding with_type
with_own word t h = rw (lt-ltb t 64 h) (digit_set word t)

with_other : (word t u : ℕ) → (u ≡ t → ⊥) → digit (with_type word t) u ≡ digit word u
unfolding with_type
with_other word t u h = on (ltb t 64) (λ e. rw e (digit_other word t u h)) (λ e. rw e)

has_last : (block : Bytes) (i t : ℕ) → has_type block (i + 1) t ≡ (has_type block i t || eqb (type block i) t)
unfolding has_type
has_last block i t = any_last (λ (j : ℕ). eqb (type block j) t) i 0 ∙ rw (zero-add i)

pub types_none : (block : Bytes) → TypesIn block 0 0
unfolding has_type any_from
types_none block = record { types = λ t h. rw (digit_zero t) }

pub types_next : {block : Bytes} {i word : ℕ} → TypesIn block i word → TypesIn block (i + 1) (with_type word (type block i))
types_next {block} {i} {word} s =
    record {
      types = λ t h.
          on (eqb (type block i) t)
          (own t h)
          (λ e. rw (has_last block i t, e, with_other word (type block i) t (λ q. eqb-false (type block i) t e (sym q)), or-false (has_type block i t)) (s.types t h));
    }
  where
    own : (t : ℕ) → t < 64 → eqb (type block i) t ≡ true → eqb (digit (with_type word (type block i)) t) 1 ≡ has_type block (i + 1) t
    own t h e = rw (has_last block i t, e, or-true (has_type block i t), eqb-true (type block i) t e, with_own word t h)

-- no pointer before i has the type of one before it, and seen has their types
pub record TwiceSearch (block : Bytes) (n seen i : ℕ) : Type 0 where
  pub looking : Looking (λ (j : ℕ). has_type block j (type block j)) (type_twice block n) n i
  pub word : TypesIn block i seen

pub twice_begin : {block : Bytes} {n : ℕ} → TwiceSearch block n 0 0
unfolding type_twice
twice_begin {block} = record { looking = look_begin refl; word = types_none block }

module _ {block : Bytes} {n seen i : ℕ} (s : TwiceSearch block n seen i) where
  pub twice_end : n ≤ i → false ≡ type_twice block n
  twice_end h = look_end s.looking h

  -- t is the type of pointer i, and b whether one before it has it
  module _ {t : ℕ} {b : Bool} (h : i < n) (e : t ≡ type block i) (f : b ≡ has_type block i t) where
    pub twice_here : b ≡ true → true ≡ type_twice block n
    twice_here q = look_here s.looking h (rw (← e, ← f) q)

    pub twice_next : {word : ℕ} → b ≡ false → word ≡ with_type seen t → TwiceSearch block n word (i + 1)
    twice_next q r = record { looking = look_next s.looking h (rw (← e, ← f) q); word = rw (r, e) (types_next s.word) }
