-- The theorem about the layout and bounds (specs/DependLayout): rules 7.11 and 7.16.
-- Rests on the agreement laws of crate `directory`, on proofs/PartAgree and on proofs/InUseOnly.
use mathlib.Core.Path.{◌≡◌, refl, sym, ◌∙◌}
use mathlib.Core.Bool.{true}
use Prim.Native.Nat.{ℕ}
use Rattle.lists.specs.Alias.{Bytes, Words}
use Rattle.lists.proofs.Choice.{on}
use Rattle.number.specs.Agree.{Agree}
use Rattle.refusal.specs.Answer.{Answer, given, refused, and_then}
use Rattle.table.specs.declared.Table.{Table}
use Rattle.table.specs.Table.{table_of}
use Rattle.bitmap.specs.Bit.{bit}
use Rattle.intake.specs.Memory.{Memory, memory, block_at}
use Rattle.intake.specs.InUse.{SameInUse}
use Rattle.intake.specs.Sound.{Sound}
use Rattle.intake.specs.Check.{check_lengths, check_call}
use Rattle.intake.proofs.RulesPassed.{call_refused, call_passes}
use Rattle.intake.proofs.PastInUse.{call_agree}
use Rattle.directory.proofs.HeaderAgree.{holds_agree, size_agree, chain_agree}
use Rattle.table_walk.specs.Asked.{asked_table}
use Rattle.table_walk.proofs.AskedTable.{sound_asked}
use Rattle.table_walk.proofs.SameBlocks.{some_block}
use Rattle.export.specs.Layout.{layout_in, bounds_in, once_held, ask_layout, ask_bounds}
use Rattle.depend.specs.Bytes.{first_block_byte}
use Rattle.depend.specs.DependLayout.{EveryLayout}
use Rattle.depend.proofs.PartAgree.{block_agree}
use Rattle.depend.proofs.Depend.{asked_same}
use Rattle.depend.proofs.InUseOnly.{checked, asked_refused, same_blocks}

module _ (len : ℕ) (map : Words) (s t : Bytes) (a : Agree (first_block_byte (memory s map)) s t) where
  -- what block 0 tells is the same, where it is held
  once_agree : {A : Type 0} (told : Bytes → Answer A) → (bit map 0 ≡ true → told (block_at s 0) ≡ told (block_at t 0))
      → once_held (memory s map) told ≡ once_held (memory t map) told
  once_agree told same = on (bit map 0) (λ b. rw (b, same b) refl) (λ b. rw b refl)

  layout_same : once_held (memory s map) (layout_in len) ≡ once_held (memory t map) (layout_in len)
  layout_same =
      once_agree (layout_in len) (λ b. let block = block_agree map s t a b in rw (holds_agree block len, size_agree block) refl)

  bounds_same : (table : Table)
      → once_held (memory s map) (λ block. bounds_in len block table) ≡ once_held (memory t map) (λ block. bounds_in len block table)
  bounds_same table = once_agree (λ block. bounds_in len block table) (λ b. rw (chain_agree (block_agree map s t a b) len table) refl)

  layout_agree : ask_layout len (memory s map) ≡ ask_layout len (memory t map)
  unfolding ask_layout check_call check_lengths
  layout_agree = rw (layout_same, a.long) refl

  bounds_agree : (number : ℕ) → ask_bounds len (memory s map) number ≡ ask_bounds len (memory t map) number
  unfolding ask_bounds
  bounds_agree number = rw (← asked_same len map s t a.long number) (by (asked_table len (memory s map) number))
    where
      by : (x : Answer Table)
          → and_then x (λ table. once_held (memory s map) (λ block. bounds_in len block table))
          ≡ and_then x (λ table. once_held (memory t map) (λ block. bounds_in len block table))
      by (given table) = bounds_same table
      by (refused f) = refl

-- memories that agree up to L and in the words in use
module _ {len : ℕ} {m n : Memory} (a : SameInUse len m n) where
  once_same : Sound len m → {A : Type 0} (told : Bytes → Answer A) → once_held m told ≡ once_held n told
  once_same sound told =
      let first = some_block len m sound in
      on (bit m.map 0)
      (λ e. rw (e, sym ((same_blocks a).bits 0 first) ∙ e, (same_blocks a).bytes 0 first e) refl)
      (λ e. rw (e, sym ((same_blocks a).bits 0 first) ∙ e) refl)

  layout_in_use : ask_layout len m ≡ ask_layout len n
  unfolding ask_layout
  layout_in_use = by (checked len m) refl
    where
      by : (c : Answer Unit) → checked len m ≡ c → ask_layout len m ≡ ask_layout len n
      by (given u) e = call_passes len m e _ ∙ once_same e (layout_in len) ∙ sym (call_passes len n (sym (call_agree a refl) ∙ e) _)
      by (refused f) e = call_refused len m e _ ∙ sym (call_refused len n (sym (call_agree a refl) ∙ e) _)

  bounds_in_use : (number : ℕ) → ask_bounds len m number ≡ ask_bounds len n number
  unfolding ask_bounds
  bounds_in_use number = by (checked len m) refl
    where
      each : Sound len m → (x : Answer Table)
          → and_then x (λ table. once_held m (λ block. bounds_in len block table)) ≡ and_then x (λ table. once_held n (λ block. bounds_in len block table))
      each sound (given table) = once_same sound (λ block. bounds_in len block table)
      each sound (refused f) = refl

      by : (c : Answer Unit) → checked len m ≡ c → ask_bounds len m number ≡ ask_bounds len n number
      by (given u) e = rw (sound_asked len m number e, sound_asked len n number (sym (call_agree a refl) ∙ e)) (each e (table_of number))
      by (refused f) e = rw (asked_refused len m number e, asked_refused len n number (sym (call_agree a refl) ∙ e)) refl

pub layout_depends : EveryLayout
layout_depends len map image =
    record {
      layout = λ other a. layout_agree len map image other a;
      bounds = λ number other a. bounds_agree len map image other a number;
      in_use = λ other words a. (layout_in_use a, bounds_in_use a);
    }
