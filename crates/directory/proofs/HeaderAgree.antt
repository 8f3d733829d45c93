-- Two first blocks that agree on the header fields and the pointers give a table the same chain (rule 7.2), and both headers hold or none does.
-- Rests on the agreement of numbers (crate `number`).
use mathlib.Core.Path.{◌≡◌, refl, ap, ◌∙◌}
use mathlib.Core.Bool.{true, and-false}
use Prim.Native.Nat.{ℕ, zero, suc, ◌+◌, ◌*◌, ◌<◌, ◌≤◌}
use native.Mathlib.Omega.{arith}
use lib.Dec.{eqb}
use Rattle.lists.specs.Alias.{Bytes}
use Rattle.number.specs.Number.{le32}
use Rattle.number.specs.Agree.{Agree, within}
use Rattle.table.specs.declared.Table.{Table}
use Rattle.directory.specs.declared.Pointer.{Pointer}
use Rattle.directory.specs.Header.{len_page, num_tables, type, pointer_at, allowed_tables, has_type, type_twice, tables_hold, header_holds}
use Rattle.directory.specs.Directory.{pointer_in, pointers_from, kept}
use Rattle.directory.specs.Chain.{table_chain}
use Rattle.directory.specs.Bytes.{directory_byte}
use Rattle.lists.proofs.Choice.{on, or_left, or_right}
use Rattle.number.proofs.NumberAgree.{agree_less, within_less, le32_agree}
use Rattle.lists.proofs.Any.{any_agree}

module _ {s t : Bytes} (a : Agree (directory_byte s) s t) where
  field_agree : (at : ℕ) → at + 4 ≤ 0x0c → le32 s at ≡ le32 t at
  unfolding directory_byte
  field_agree at h = le32_agree at (agree_less (λ i e. or_left _ (within_less at 4 0x00 0x0c i (omega arith) (omega arith) e)) a)

  pub size_agree : len_page s ≡ len_page t
  size_agree = field_agree 0x04 (omega arith)

  module _ (ok : allowed_tables (num_tables s) ≡ true) where
    pointers_agree : Agree (within (pointer_at 0) (16 * num_tables s)) s t
    unfolding directory_byte
    pointers_agree = agree_less (λ i e. or_right (within 0x00 0x0c i) (rw (ok, e))) a

    number_agree : (at : ℕ) → 0x1c ≤ at → at + 4 ≤ 0x1c + 16 * num_tables s → le32 s at ≡ le32 t at
    number_agree at h k = le32_agree at (agree_less (λ i e. within_less at 4 (pointer_at 0) (16 * num_tables s) i (omega arith) (omega arith) e) pointers_agree)

    pointer_agree : (i : ℕ) → i < num_tables s → pointer_in s i ≡ pointer_in t i
    pointer_agree i h =
        let number : (k : ℕ) → k ≤ 0x0c → le32 s (pointer_at i + k) ≡ le32 t (pointer_at i + k) =
        λ k l. number_agree (pointer_at i + k) (omega arith) (omega arith) in
        rw (number_agree (pointer_at i) (omega arith) (omega arith), number 0x04 (omega arith), number 0x08 (omega arith), number 0x0c (omega arith))

    type_agree : (i : ℕ) → i < num_tables s → type s i ≡ type t i
    type_agree i h = ap (λ (p : Pointer). p.table_type) (pointer_agree i h)

    has_agree : (n x : ℕ) → n ≤ num_tables s → has_type s n x ≡ has_type t n x
    unfolding has_type
    has_agree n x h = any_agree (λ (i : ℕ). eqb (type s i) x) (λ (i : ℕ). eqb (type t i) x) n 0 (λ j l g. rw (type_agree j (omega arith)))

    twice_agree : type_twice s (num_tables s) ≡ type_twice t (num_tables s)
    unfolding type_twice
    twice_agree =
        any_agree (λ (i : ℕ). has_type s i (type s i)) (λ (i : ℕ). has_type t i (type t i)) (num_tables s) 0
        (λ j l g. has_agree j (type s j) (omega arith) ∙ rw (type_agree j (omega arith)))

    from_agree : (k i : ℕ) → i + k ≤ num_tables s → pointers_from s k i ≡ pointers_from t k i
    unfolding pointers_from
    from_agree zero i h = refl
    from_agree (suc k) i h = rw (pointer_agree i (omega arith), from_agree k (i + 1) (omega arith))

    kept_agree : kept s (num_tables s) ≡ kept t (num_tables s)
    unfolding kept
    kept_agree = rw (from_agree (num_tables s) 0 (omega arith))

  zeros_agree : le32 s 0x00 ≡ le32 t 0x00
  zeros_agree = field_agree 0x00 (omega arith)

  tables_agree : num_tables s ≡ num_tables t
  tables_agree = field_agree 0x08 (omega arith)

  pub holds_agree : (len : ℕ) → header_holds len s ≡ header_holds len t
  unfolding header_holds tables_hold
  holds_agree len =
      rw (zeros_agree, size_agree, ← tables_agree) (on (allowed_tables (num_tables s)) (λ e. rw (twice_agree e)) (λ e. simp (e, and-false)))

  pub chain_agree : (len : ℕ) (table : Table) → table_chain len s table ≡ table_chain len t table
  unfolding table_chain header_holds tables_hold
  chain_agree len table =
      rw (zeros_agree, size_agree, ← tables_agree)
      (on (allowed_tables (num_tables s)) (λ e. rw (twice_agree e, kept_agree e)) (λ e. simp (e, and-false)))
