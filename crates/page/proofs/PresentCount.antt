-- Rule 5.33: the ones of the flags, summed group by group, are the present entries; the loop of `present_count`.
--     group_step     the present entries from a group's first entry on: the ones of its flags, and the present entries behind the group
--     begin, next    before the first group, and after one; room: the sum fits
--     end            after the last group
use mathlib.Core.Path.{◌≡◌, refl, ap, ◌∙◌}
use Prim.Native.Nat.{ℕ, zero, suc, ◌+◌, ◌-◌, ◌*◌, ◌/◌, ◌%◌, ◌^◌, ◌<◌, ◌≤◌}
use native.Mathlib.Nat.{sub-zero, min-eq_left, min-eq_right}
use native.Mathlib.Omega.{arith}
use lib.Count.{ones, ones_step}
use lib.ListN.{length}
use lib.Pow.{mod-pow-add, shr-shr}
use lib.Dec.{eqb, ltb}
use borrow.Author.Tests.{eqb-true, eqb-false, ltb-true, ltb-false}
use Rattle.lists.specs.Alias.{Bytes}
use Rattle.lists.proofs.Choice.{on}
use Rattle.number.specs.Number.{le16}
use Rattle.page.specs.Index.{flags_at, present, present_from}
use Rattle.page.specs.Private.{group_ones}
use Rattle.page.proofs.EntriesInside.{entry_absent, entry_present, entry_none, few_present}

zero_ones : ones 0 ≡ 0
unfolding ones
zero_ones = refl

-- the lowest of k + 1 digits from digit j on, and the others
digits_next : (w j k : ℕ) → ones (w / 2 ^ j % 2 ^ suc k) ≡ w / 2 ^ j % 2 + ones (w / 2 ^ (j + 1) % 2 ^ k)
digits_next w j k =
    let x = w / 2 ^ j in
    let whole : x % 2 ^ suc k ≡ x / 2 % 2 ^ k * 2 + x % 2 = ap (λ (d : ℕ). x % 2 ^ d) (omega arith) ∙ mod-pow-add x k 1 in
    let half : x % 2 ^ suc k / 2 ≡ w / 2 ^ (j + 1) % 2 ^ k = omega (arith, whole) ∙ ap (λ (d : ℕ). d % 2 ^ k) (shr-shr w j 1) in
    omega (arith, ones_step (x % 2 ^ suc k), whole, ap ones half)

-- the number of present entries from entry e on
abbrev present_left : (page : Bytes) (n e : ℕ) → ℕ
present_left page n e = length (present_from page (n - e) e)

module _ (page : Bytes) (n i : ℕ) (first : i % 16 ≡ 0) where
  -- entry j of the group that starts with entry i
  entry_flag : (j : ℕ) → j < 16 → present page (i + j) ≡ eqb (le16 page (flags_at page i) / 2 ^ j % 2) 1
  unfolding present flags_at
  entry_flag j h =
      let group : (i + j) / 16 ≡ i / 16 = omega arith in
      let bit : (i + j) % 16 ≡ j = omega arith in
      rw (group, bit)

  entry_count : (j : ℕ) → j < 16 → i + j < n → present_left page n (i + j) ≡ le16 page (flags_at page i) / 2 ^ j % 2 + present_left page n (i + (j + 1))
  entry_count j h l =
      let d = le16 page (flags_at page i) / 2 ^ j % 2 in
      let next : i + (j + 1) ≡ i + j + 1 = omega arith in
      on (eqb d 1)
      (λ e. let one = eqb-true d 1 e in rw (next, entry_present page l (entry_flag j h ∙ e)) (omega arith))
      (λ e. let other = eqb-false d 1 e in let none : d ≡ 0 = omega arith in rw (next, entry_absent page l (entry_flag j h ∙ e)) (omega arith))

  -- k entries of the group from its entry j on
  part_count : (k j : ℕ) → j + k ≤ 16 → i + (j + k) ≤ n
      → present_left page n (i + j) ≡ ones (le16 page (flags_at page i) / 2 ^ j % 2 ^ k) + present_left page n (i + (j + k))
  part_count zero j h l =
      let none : le16 page (flags_at page i) / 2 ^ j % 2 ^ 0 ≡ 0 = omega arith in
      let same : j + 0 ≡ j = omega arith in
      rw (none, same, zero_ones) (omega arith)
  part_count (suc k) j h l =
      let flags = le16 page (flags_at page i) in
      let same : j + suc k ≡ j + 1 + k = omega arith in
      rw same
      (omega (arith, entry_count j (omega arith) (omega arith), part_count k (j + 1) (omega arith) (omega arith), digits_next flags j k))

  first_part : (k : ℕ) → k ≤ 16 → i + k ≤ n → present_left page n i ≡ ones (le16 page (flags_at page i) % 2 ^ k) + present_left page n (i + k)
  first_part k h l =
      let start : i + 0 ≡ i = omega arith in
      let whole : le16 page (flags_at page i) / 2 ^ 0 ≡ le16 page (flags_at page i) = omega arith in
      let all : 0 + k ≡ k = omega arith in
      rw (start, whole, all) at (part_count k 0 (omega arith) (omega arith))

  none_left : (e : ℕ) → n ≤ e → present_left page n e ≡ 0
  none_left e h = ap length (entry_none page n e h)

  pub group_step : i < n → present_left page n i ≡ group_ones page (n - i) i + present_left page n (i + 16)
  unfolding group_ones
  group_step h =
      on (ltb (n - i) 16)
      (λ e. let l = ltb-true (n - i) 16 e in
      rw (min-eq_left {n = n - i} {m = 16} (omega arith))
      (omega (arith, first_part (n - i) (omega arith) (omega arith), none_left (i + (n - i)) (omega arith), none_left (i + 16) (omega arith))))
      (λ e. let l = ltb-false (n - i) 16 e in
      rw (min-eq_right {n = 16} {m = n - i} l) (first_part 16 (omega arith) (omega arith)))

pub record Counting (page : Bytes) (n i count : ℕ) : Type 0 where
  pub first : i % 16 ≡ 0
  pub entry : i < n + 16
  pub rest : length (present_from page n 0) ≡ count + present_left page n i

pub begin : (page : Bytes) (n : ℕ) → Counting page n 0 0
begin page n = record { first = refl; entry = omega arith; rest = rw (sub-zero n) (omega arith) }

module _ {page : Bytes} {n i count : ℕ} (t : Counting page n i count) where
  pub next : {group : ℕ} → i < n → group ≡ group_ones page (n - i) i → Counting page n (i + 16) (count + group)
  next h e = record { first = omega (arith, t.first); entry = omega arith; rest = omega (arith, t.rest, group_step page n i t.first h) }

  pub room : {group : ℕ} → i < n → group ≡ group_ones page (n - i) i → count + group ≤ n
  room h e = omega (arith, t.rest, few_present page n 0, group_step page n i t.first h)

  pub end : n ≤ i → count ≡ length (present_from page n 0)
  end h = omega (arith, t.rest, ap length (entry_none page n i h))
