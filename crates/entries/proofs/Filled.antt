-- Rule 14.9: the law of entries that fill a tag (`entries_filled`), for every width.
use mathlib.Core.Path.{◌≡◌, refl, sym}
use mathlib.Core.List.{[]}
use Prim.Native.Nat.{ℕ, zero, suc, ◌+◌, ◌*◌, ◌<◌, ◌≤◌}
use native.Mathlib.Nat.{mul-le-mul, mul-le-mul_left, mul-suc, mul-zero, add-zero, zero-add}
use native.Mathlib.Omega.{arith}
use lib.ListN.{length, drop, get_or, length-take, length-drop, take-append-drop, drop_of_length-le}
use lib.Seq.{drop-drop}
use borrow.Author.Tests.{eqb-true}
use Rattle.lists.specs.Alias.{Bytes}
use Rattle.entries.specs.Entries.{entry_at, entry, fills, entries_from}
use Rattle.entries.specs.Filled.{joined, EveryFilled}

module _ (width : ℕ) (tag : Bytes) where
  pub entry_next : (k : ℕ) → entry_at width (k + 1) ≡ entry_at width k + width
  entry_next k = let e : width * suc k ≡ width * k + width = mul-suc width k in omega arith

  pub entries_counted : (left k : ℕ) → length (entries_from width tag left k) ≡ left
  unfolding entries_from
  entries_counted zero k = refl
  entries_counted (suc left) k = rw (entries_counted left (k + 1))

  pub entries_at : (left k i : ℕ) → i < left → get_or (entries_from width tag left k) i [] ≡ entry width tag (k + i)
  unfolding entries_from
  entries_at zero k i h = absurd (omega arith)
  entries_at (suc left) k zero h = rw (add-zero k)
  entries_at (suc left) k (suc i) h = let e : k + 1 + i ≡ k + suc i = omega arith in rw e at (entries_at left (k + 1) i (omega arith))

  -- the entries left, end to end, are the rest of the tag
  list_joined : (left k : ℕ) → entry_at width (k + left) ≡ length tag → joined (entries_from width tag left k) ≡ drop (entry_at width k) tag
  unfolding entries_from joined
  list_joined zero k e = sym (drop_of_length-le tag {i = entry_at width k} (let z : k + 0 ≡ k = omega arith in omega (arith, rw z at e)))
  list_joined (suc left) k e =
      let same : k + suc left ≡ k + 1 + left = omega arith in
      let rest = list_joined left (k + 1) (rw same at e) in
      rw (rest, entry_next k, ← drop-drop width (entry_at width k) tag) (take-append-drop width (drop (entry_at width k) tag))

module _ (width count : ℕ) (tag : Bytes) (e : entry_at width count ≡ length tag) where
  entry_inside : (k : ℕ) → k < count → entry_at width k + width ≤ length tag
  entry_inside k h =
      let more : width * suc k ≤ width * count = mul-le-mul_left width (omega arith) in
      let step : width * suc k ≡ width * k + width = mul-suc width k in
      omega arith

  entry_whole : (k : ℕ) → k < count → length (entry width tag k) ≡ width
  entry_whole k h = omega (arith, entry_inside k h, length-take width (drop (entry_at width k) tag), length-drop (entry_at width k) tag)

pub entries_filled : EveryFilled
unfolding fills
entries_filled width count tag h =
    let e = eqb-true (entry_at width count) (length tag) h in
    record {
      first = rw (mul-zero width);
      next = entry_next width tag;
      inside = entry_inside width count tag e;
      whole = entry_whole width count tag e;
      last = e;
      counted = entries_counted width tag count 0;
      listed = λ k l. rw (zero-add k) at (entries_at width tag count 0 k l);
      every = rw (mul-zero width) at (list_joined width tag count 0 (rw (zero-add count) e));
    }

-- the product of two 32-bit numbers leaves room for the sums that `fill` and `entry` make
pub product_most : (width count : ℕ) → width ≤ 4294967295 → count ≤ 4294967295 → width * count ≤ 18446744065119617025
product_most width count h k = mul-le-mul h k
