-- The loop of `next_missing`, which passes over runs of held blocks. Rule 1.24.
--     run_full, run_one, run_none     the run that `held_run` gives in each of its cases
--     Searching                       the loop's invariant: no block from the first number up to this one is missing
--     search_here, search_next        block i is not held; a run of held blocks is passed over
--     search_end                      no block is left
use mathlib.Core.Path.{◌≡◌, refl, sym, ap, ◌∙◌}
use mathlib.Core.Bool.{Bool, true, false, not}
use mathlib.Core.Option.{none, some}
use Prim.Native.Nat.{ℕ, ◌+◌, ◌-◌, ◌/◌, ◌%◌, ◌<◌, ◌≤◌}
use native.Mathlib.Omega.{arith}
use Rattle.lists.specs.Alias.{Words}
use Rattle.lists.specs.First.{first_from}
use Rattle.lists.proofs.First.{first_here, first_skip, first_end}
use Rattle.bitmap.specs.Bit.{bit, word_at}
use Rattle.bitmap.proofs.BitSet.{bit_full}
use Rattle.intake.specs.Private.{HeldRun}

module _ (map : Words) (block : ℕ) where
  pub run_full : word_at map (block / 64) ≡ 0xffff_ffff_ffff_ffff → HeldRun map block (64 - block % 64)
  run_full e = record { few = omega arith; ones = one; stop = λ z. absurd (omega arith) }
    where
      one : (b : ℕ) → block ≤ b → b < block + (64 - block % 64) → bit map b ≡ true
      one b l g =
          let p : b / 64 ≡ block / 64 = omega arith in
          bit_full map b (rw (p, e))

  pub run_one : bit map block ≡ true → HeldRun map block 1
  run_one e =
      record {
        few = omega arith;
        ones = λ b l g. let p : b ≡ block = omega arith in rw p e;
        stop = λ z. absurd (omega arith);
      }

  pub run_none : bit map block ≡ false → HeldRun map block 0
  run_none e = record { few = omega arith; ones = λ b l g. absurd (omega arith); stop = λ z. e }

-- whether a block's bit is not one
abbrev pub unset : Words → ℕ → Bool
unset map b = not (bit map b)

pub record Searching (map : Words) (from n i : ℕ) : Type 0 where
  pub rest : first_from (unset map) (n - from) from ≡ first_from (unset map) (n - i) i

pub search_begin : (map : Words) (from n : ℕ) → Searching map from n from
search_begin map from n = record { rest = refl }

module _ {map : Words} {from n i : ℕ} (s : Searching map from n i) where
  pub search_here : i < n → {run : ℕ} → HeldRun map i run → run ≡ 0 → some i ≡ first_from (unset map) (n - from) from
  search_here l h z = sym (s.rest ∙ first_here (unset map) l (ap not (h.stop z)))

  pub search_next : {run : ℕ} → HeldRun map i run → Searching map from n (i + run)
  search_next {run} h = record { rest = s.rest ∙ first_skip (unset map) n i run (λ b l g. ap not (h.ones b l g)) }

  pub search_end : n ≤ i → none ≡ first_from (unset map) (n - from) from
  search_end l = sym (s.rest ∙ first_end (unset map) n i l)
