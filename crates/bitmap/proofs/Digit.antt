-- The binary digits of one word, when one of them is set: specs/Bit rests on them.
--     digit_set, digit_other    the digit set is 1, every other is as before
--     ones_set                  setting a digit that was 0 makes one more one
--     set_below                 a word of k digits keeps its length
--     same_digits               two words of k digits with the same digits are equal
--     above_zero, zero_above    what is left of a word above digit s is 0 exactly when its digits from s on are 0
--     all_ones                  the largest word of k digits has no digit 0
use mathlib.Core.Path.{◌≡◌, refl, sym, ap, ◌∙◌}
use Prim.Native.Nat.{ℕ, zero, suc, ◌+◌, ◌*◌, ◌/◌, ◌%◌, ◌^◌, ◌<◌}
use native.Mathlib.Omega.{arith}
use native.Mathlib.Nat.{pow-suc, max-zero, max-eq_right}
use native.Mathlib.Numerals.{one-add}
use lib.Bits.{bit_or, or_step, or_zero_r, or_lt}
use lib.Count.{ones, ones_step}
use lib.Pow.{shr-shr, shr_lt, pow-lt, pow_pos}
use Rattle.bitmap.specs.Bit.{digit}

pub digit_low : (w : ℕ) → digit w 0 ≡ w % 2
digit_low w = omega arith

pub digit_next : (w i : ℕ) → digit w (suc i) ≡ digit (w / 2) i
digit_next w i = rw (← one-add i, ← shr-shr w 1 i)

half_double : (s : ℕ) → 2 ^ suc s / 2 ≡ 2 ^ s
half_double s = omega (arith, pow-suc 2 s)

odd_double : (s : ℕ) → 2 ^ suc s % 2 ≡ 0
odd_double s = omega (arith, pow-suc 2 s)

or_low : (w : ℕ) → bit_or w 1 ≡ w / 2 * 2 + 1
or_low w = rw (or_step w 1, or_zero_r (w / 2), max-eq_right {n = w % 2} {m = 1} (omega arith))

or_next : (w s : ℕ) → bit_or w (2 ^ suc s) ≡ bit_or (w / 2) (2 ^ s) * 2 + w % 2
or_next w s = rw (or_step w (2 ^ suc s), half_double s, odd_double s, max-zero (w % 2))

-- what is left of the word above its lowest digit, after a higher digit is set, and that lowest digit
or_half : (w s : ℕ) → bit_or w (2 ^ suc s) / 2 ≡ bit_or (w / 2) (2 ^ s)
or_half w s = omega (arith, or_next w s)

or_odd : (w s : ℕ) → bit_or w (2 ^ suc s) % 2 ≡ w % 2
or_odd w s = omega (arith, or_next w s)

or_low_half : (w : ℕ) → bit_or w 1 / 2 ≡ w / 2
or_low_half w = omega (arith, or_low w)

pub digit_set : (w s : ℕ) → digit (bit_or w (2 ^ s)) s ≡ 1
digit_set w zero = omega (arith, or_low w)
digit_set w (suc s) = digit_next (bit_or w (2 ^ suc s)) s ∙ rw (or_half w s) (digit_set (w / 2) s)

pub digit_other : (w s i : ℕ) → (i ≡ s → ⊥) → digit (bit_or w (2 ^ s)) i ≡ digit w i
digit_other w zero zero h = absurd (h refl)
digit_other w zero (suc i) h = digit_next (bit_or w 1) i ∙ rw (or_low_half w) (sym (digit_next w i))
digit_other w (suc s) zero h = omega (arith, or_odd w s)
digit_other w (suc s) (suc i) h = digit_next (bit_or w (2 ^ suc s)) i ∙ rw (or_half w s) (digit_other (w / 2) s i (λ e. h (ap suc e)) ∙ sym (digit_next w i))

pub ones_set : (w s : ℕ) → digit w s ≡ 0 → ones (bit_or w (2 ^ s)) ≡ ones w + 1
ones_set w zero h = omega (arith, ones_step (bit_or w 1), ap ones (or_low_half w), or_low w, ones_step w, digit_low w)
ones_set w (suc s) h =
    omega (arith, ones_step (bit_or w (2 ^ suc s)), ap ones (or_half w s), or_odd w s, ones_step w, ones_set (w / 2) s (sym (digit_next w s) ∙ h))

pub set_below : (k w s : ℕ) → s < k → w < 2 ^ k → bit_or w (2 ^ s) < 2 ^ k
set_below k w s h l = or_lt k w (2 ^ s) l (pow-lt h)

pub same_digits : (k a b : ℕ) → a < 2 ^ k → b < 2 ^ k → ((i : ℕ) → i < k → digit a i ≡ digit b i) → a ≡ b
same_digits zero a b ha hb h = omega arith
same_digits (suc k) a b ha hb h =
    omega (
      arith,
      same_digits k (a / 2) (b / 2) (omega (arith, pow-suc 2 k)) (omega (arith, pow-suc 2 k)) (λ i l.
          sym (digit_next a i) ∙ h (suc i) (omega arith) ∙ digit_next b i),
      h 0 (omega arith),
      digit_low a,
      digit_low b,
    )

pub digit_zero : (i : ℕ) → digit 0 i ≡ 0
digit_zero zero = refl
digit_zero (suc i) = digit_next 0 i ∙ digit_zero i

digit_above : (w s i : ℕ) → digit (w / 2 ^ s) i ≡ digit w (s + i)
digit_above w s i = rw (shr-shr w s i)

pub above_zero : (k s w : ℕ) → w < 2 ^ (k + s) → ((i : ℕ) → i < k → digit w (s + i) ≡ 0) → w / 2 ^ s ≡ 0
above_zero k s w l h = same_digits k (w / 2 ^ s) 0 (shr_lt k s l) (pow_pos k) (λ i g. digit_above w s i ∙ h i g ∙ sym (digit_zero i))

pub zero_above : (s w i : ℕ) → w / 2 ^ s ≡ 0 → digit w (s + i) ≡ 0
zero_above s w i e = sym (digit_above w s i) ∙ rw e (digit_zero i)

pub all_ones : (k w i : ℕ) → w + 1 ≡ 2 ^ k → i < k → digit w i ≡ 1
all_ones zero w i e l = absurd (omega arith)
all_ones (suc k) w zero e l = omega (arith, pow-suc 2 k, digit_low w)
all_ones (suc k) w (suc i) e l = digit_next w i ∙ all_ones k (w / 2) i (omega (arith, pow-suc 2 k)) (omega arith)
