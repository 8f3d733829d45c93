-- Section 7 and rules 14.16 to 14.19, 14.30 to 14.33: agreement on relevant bytes gives equal numbers (byte_agree, two_agree, four_agree and, from these,
-- le16_agree to be32_agree), and agreement of a whole that of its parts (drop_agree, take_agree, part_agree, in_part_agree) and
-- of fewer bytes (agree_less, agree_inside).
use mathlib.Core.Path.{◌≡◌, sym, ◌∙◌}
use mathlib.Core.Bool.{Bool, true, false, ◌&&◌}
use Prim.Native.Nat.{ℕ, ◌+◌, ◌-◌, ◌*◌, ◌<◌, ◌≤◌}
use native.Mathlib.Omega.{arith}
use lib.ListN.{length, take, drop, length-drop, length-take}
use lib.Seq.{get_or-drop, get_or-take}
use lib.Dec.{ltb, leb}
use borrow.Author.Tests.{le-leb, lt-ltb, ltb-true, ltb-false, leb-true}
use Rattle.lists.specs.Alias.{Bytes}
use Rattle.number.specs.Number.{byte_at, le16, le24, le32, be16, be32}
use Rattle.number.specs.Agree.{Agree, within, in_part}
use Rattle.number.proofs.Number.{byte_past, le32_bytes, be32_bytes}
use Rattle.lists.proofs.Choice.{on, both_true}

pub within_true : (from size i : ℕ) → from ≤ i → i < from + size → within from size i ≡ true
unfolding within
within_true from size i h k = rw (le-leb from i h, lt-ltb i (from + size) k)

pub within_both : (from size i : ℕ) → within from size i ≡ true → (from ≤ i) × (i < from + size)
unfolding within
within_both from size i e =
    let both = both_true (leb from i) (ltb i (from + size)) e in
    (leb-true from i both.0, ltb-true i (from + size) both.1)

-- a run of bytes that lies on one side of i does not have byte i
pub within_false : (from size i : ℕ) → (from ≤ i → i < from + size → ⊥) → within from size i ≡ false
within_false from size i h = on (within from size i) (λ e. let both = within_both from size i e in absurd (h both.0 both.1)) (λ e. e)

-- a run of bytes inside another one
pub within_less : (from size outer span i : ℕ) → outer ≤ from → from + size ≤ outer + span → within from size i ≡ true
    → within outer span i ≡ true
within_less from size outer span i h k e =
    let both = within_both from size i e in
    within_true outer span i (omega arith) (omega arith)

pub agree_less : {p q : ℕ → Bool} {s t : Bytes} → ((i : ℕ) → p i ≡ true → q i ≡ true) → Agree q s t → Agree p s t
agree_less f a = record { long = a.long; same = λ i e. a.same i (f i e) }

module _ {s t : Bytes} (at : ℕ) where
  pub byte_agree : Agree (within at 1) s t → byte_at s at ≡ byte_at t at
  byte_agree a = a.same at (within_true at 1 at (omega arith) (omega arith))

  byte : (k n : ℕ) → k < n → Agree (within at n) s t → byte_at s (at + k) ≡ byte_at t (at + k)
  byte k n h a = a.same (at + k) (within_true at n (at + k) (omega arith) (omega arith))

  first : (n : ℕ) → 0 < n → Agree (within at n) s t → byte_at s at ≡ byte_at t at
  first n h a = a.same at (within_true at n at (omega arith) (omega arith))

  -- whatever is made of two bytes, or of four
  pub two_agree : (f : ℕ → ℕ → ℕ) → Agree (within at 2) s t → f (byte_at s at) (byte_at s (at + 1)) ≡ f (byte_at t at) (byte_at t (at + 1))
  two_agree f a = rw (first 2 (omega arith) a, byte 1 2 (omega arith) a)

  pub four_agree : (f : ℕ → ℕ → ℕ → ℕ → ℕ) → Agree (within at 4) s t
      → f (byte_at s at) (byte_at s (at + 1)) (byte_at s (at + 2)) (byte_at s (at + 3))
      ≡ f (byte_at t at) (byte_at t (at + 1)) (byte_at t (at + 2)) (byte_at t (at + 3))
  four_agree f a = rw (first 4 (omega arith) a, byte 1 4 (omega arith) a, byte 2 4 (omega arith) a, byte 3 4 (omega arith) a)

  pub le16_agree : Agree (within at 2) s t → le16 s at ≡ le16 t at
  unfolding le16
  le16_agree a = two_agree (λ (low high : ℕ). low + 256 * high) a

  pub le24_agree : Agree (within at 3) s t → le24 s at ≡ le24 t at
  unfolding le24
  le24_agree a = rw (le16_agree (agree_less (λ i e. within_less at 2 at 3 i (omega arith) (omega arith) e) a), byte 2 3 (omega arith) a)

  pub le32_agree : Agree (within at 4) s t → le32 s at ≡ le32 t at
  le32_agree a = le32_bytes s at ∙ four_agree (λ (a b c d : ℕ). a + 256 * b + 65536 * c + 16777216 * d) a ∙ sym (le32_bytes t at)

  pub be16_agree : Agree (within at 2) s t → be16 s at ≡ be16 t at
  unfolding be16
  be16_agree a = two_agree (λ (high low : ℕ). 256 * high + low) a

  pub be32_agree : Agree (within at 4) s t → be32 s at ≡ be32 t at
  be32_agree a = be32_bytes s at ∙ four_agree (λ (a b c d : ℕ). 16777216 * a + 65536 * b + 256 * c + d) a ∙ sym (be32_bytes t at)

-- a part's byte i is the whole's byte a + i
pub drop_agree : {p : ℕ → Bool} {s t : Bytes} (a : ℕ) → Agree p s t → Agree (λ i. p (a + i)) (drop a s) (drop a t)
drop_agree {s = s} {t} a e =
    record {
      long = simp (length-drop, e.long);
      same = λ i h. get_or-drop a s i 0 ∙ e.same (a + i) h ∙ sym (get_or-drop a t i 0);
    }

-- past the end both bytes are 0, so only the bytes inside need to agree
pub agree_inside : {p : ℕ → Bool} {s t : Bytes} → Agree (λ i. ltb i (length s) && p i) s t → Agree p s t
agree_inside {p} {s} {t} a =
    record { long = a.long; same = λ i e. on (ltb i (length s)) (λ h. a.same i (rw (h, e))) (λ h. past i (ltb-false i (length s) h)) }
  where
    past : (i : ℕ) → length s ≤ i → byte_at s i ≡ byte_at t i
    past i h = byte_past s i h ∙ sym (byte_past t i (rw a.long at h))

pub take_agree : {p : ℕ → Bool} {s t : Bytes} (n : ℕ) → Agree p s t → Agree p (take n s) (take n t)
take_agree {p} {s} {t} n a =
    record { long = simp (length-take, a.long); same = λ i e. on (ltb i n) (λ h. before i (ltb-true i n h) e) (λ h. past i (ltb-false i n h)) }
  where
    before : (i : ℕ) → i < n → p i ≡ true → byte_at (take n s) i ≡ byte_at (take n t) i
    before i h e = get_or-take n s i 0 h ∙ a.same i e ∙ sym (get_or-take n t i 0 h)

    past : (i : ℕ) → n ≤ i → byte_at (take n s) i ≡ byte_at (take n t) i
    past i h =
        byte_past (take n s) i (omega (arith, length-take n s)) ∙ sym (byte_past (take n t) i (omega (arith, length-take n t)))

-- byte i of the part is byte place + i of the whole
pub part_agree : {whole part : ℕ → Bool} {s t : Bytes} (place size : ℕ) → ((i : ℕ) → i < size → part i ≡ true → whole (place + i) ≡ true)
    → Agree whole s t → Agree part (take size (drop place s)) (take size (drop place t))
part_agree {whole} {part} {s} place size f a = agree_inside (agree_less byte (take_agree size (drop_agree place a)))
  where
    byte : (i : ℕ) → (ltb i (length (take size (drop place s))) && part i) ≡ true → whole (place + i) ≡ true
    byte i e =
        let both = both_true (ltb i (length (take size (drop place s)))) (part i) e in
        f i (omega (arith, ltb-true i (length (take size (drop place s))) both.0, length-take size (drop place s))) both.1

pub in_part_agree : {s t : Bytes} (test : ℕ → Bool) (place size : ℕ) → Agree (in_part test place size) s t
    → Agree test (take size (drop place s)) (take size (drop place t))
unfolding in_part
in_part_agree test place size a = part_agree place size byte a
  where
    byte : (i : ℕ) → i < size → test i ≡ true → in_part test place size (place + i) ≡ true
    byte i h e =
        let back : i ≡ place + i - place = omega arith in
        rw (within_true place size (place + i) (omega arith) (omega arith)) (rw back at e)

pub in_part_within : (test : ℕ → Bool) (place size i : ℕ) → in_part test place size i ≡ true → within place size i ≡ true
unfolding in_part
in_part_within test place size i e = (both_true (within place size i) (test (i - place)) e).0

pub in_part_among : (fewer more : ℕ → Bool) (place size i : ℕ) → (fewer (i - place) ≡ true → more (i - place) ≡ true)
    → in_part fewer place size i ≡ true → in_part more place size i ≡ true
unfolding in_part
in_part_among fewer more place size i f e =
    let both = both_true (within place size i) (fewer (i - place)) e in
    rw both.0 (f both.1)
