-- Rules 8.19 to 8.21 (specs/Fetch): held and missing blocks, the layout and bounds, by the received blocks.
--     fetches            they are those of the received blocks
--     fetched_kept       with more blocks received, held blocks and what block 0 told stay
-- Rests on what a run holds (specs/Holds), and on the intake's laws of `check_call`.
use mathlib.Core.Path.{◌≡◌, refl, sym, ap, ◌∙◌}
use mathlib.Core.Bool.{true, not}
use mathlib.Core.Option.{Option, none, some}
use Prim.Native.Nat.{ℕ, ◌-◌, ◌<◌}
use native.Mathlib.Omega.{arith}
use lib.Dec.{ltb}
use borrow.Author.Tests.{ltb-true}
use Rattle.lists.specs.Alias.{Bytes}
use Rattle.lists.proofs.Choice.{on, never, both_true}
use Rattle.lists.proofs.First.{first_agree}
use Rattle.refusal.specs.Answer.{Answer, given, refused, and_then}
use Rattle.table.specs.declared.Table.{Table}
use Rattle.table.specs.Table.{table_of}
use Rattle.bitmap.specs.Words.{block_count}
use Rattle.bitmap.specs.Bit.{bit}
use Rattle.intake.specs.Sound.{Sound}
use Rattle.intake.specs.Memory.{Memory}
use Rattle.intake.specs.Missing.{held, next_missing}
use Rattle.intake.proofs.RulesPassed.{call_passes}
use Rattle.table_walk.proofs.AskedTable.{sound_asked}
use Rattle.table_walk.proofs.SameBlocks.{some_block}
use Rattle.export.specs.Layout.{layout_in, bounds_in, once_held, ask_layout, ask_bounds}
use Rattle.run.specs.Received.{Received, has}
use Rattle.run.specs.Holds.{Holds}
use Rattle.run.specs.FromList.{NotWaiting}
use Rattle.run.specs.Fetch.{once_received, Fetches, KeepsFetched}

module _ {len : ℕ} {before m : Memory} {r : Received} (sound : Sound len m) (h : Holds len before r m) where
  once-received : {A : Type 0} (told : Bytes → Answer A) → once_held m told ≡ once_received (r 0) told
  once-received told = by (r 0) refl
    where
      inside : 0 < block_count len
      inside = some_block len m sound

      by : (first : Option Bytes) → r 0 ≡ first → once_held m told ≡ once_received first told
      by none e = rw (h.bits 0 inside ∙ ap has e)
      by (some block) e = rw (h.bits 0 inside ∙ ap has e, h.blocks 0 block inside e)

  pub fetches : Fetches len r m
  unfolding held next_missing ask_layout ask_bounds
  fetches =
      record {
        holds = λ b. on (ltb b (block_count len)) (λ l. rw (l, h.bits b (ltb-true b (block_count len) l))) (λ l. rw l);
        missing = λ from. first_agree (λ (b : ℕ). not (bit m.map b)) (λ (b : ℕ). not (has (r b))) (block_count len - from) from
            (λ b l g. ap not (h.bits b (omega arith)));
        layout = call_passes len m sound _ ∙ once-received (layout_in len);
        bounds = λ number. rw (sound_asked len m number sound) (by (table_of number));
      }
    where
      by : (x : Answer Table)
          → and_then x (λ table. once_held m (λ block. bounds_in len block table)) ≡ and_then x (λ table. once_received (r 0) (λ block. bounds_in len block table))
      by (given table) = once-received (λ block. bounds_in len block table)
      by (refused f) = refl

-- what block 0 told stays where it stays received
once_kept : {A : Type 0} (told : Bytes → Answer A) (first later : Option Bytes) → ((block : Bytes) → first ≡ some block → later ≡ some block)
    → NotWaiting (once_received first told) → once_received later told ≡ once_received first told
once_kept told none later keeps s = absurd s
once_kept told (some block) later keeps s = rw (keeps block refl)

module _ {len : ℕ} {a b : Memory} {r s : Received} (keeps : (n : ℕ) (piece : Bytes) → r n ≡ some piece → s n ≡ some piece)
    (earlier : Fetches len r a) (later : Fetches len s b) where
  has_later : (n : ℕ) → has (r n) ≡ true → has (s n) ≡ true
  has_later n e = by (r n) refl e
    where
      by : (o : Option Bytes) → r n ≡ o → has o ≡ true → has (s n) ≡ true
      by none q f = never (cc)
      by (some piece) q f = ap has (keeps n piece q)

  pub fetched_kept : KeepsFetched len a b
  fetched_kept =
      record {
        holds = λ n e.
            let parts = both_true (ltb n (block_count len)) (has (r n)) (sym (earlier.holds n) ∙ e) in
            later.holds n ∙ rw (parts.0, has_later n parts.1);
        layout = λ w.
            later.layout ∙ once_kept (layout_in len) (r 0) (s 0) (keeps 0) (rw earlier.layout at w) ∙ sym earlier.layout;
        bounds = λ number w. later.bounds number ∙ by (table_of number) (rw (earlier.bounds number) at w) ∙ sym (earlier.bounds number);
      }
    where
      by : (x : Answer Table) → NotWaiting (and_then x (λ table. once_received (r 0) (λ block. bounds_in len block table)))
          → and_then x (λ table. once_received (s 0) (λ block. bounds_in len block table)) ≡ and_then x (λ table. once_received (r 0) (λ block. bounds_in len block table))
      by (given table) w = once_kept (λ block. bounds_in len block table) (r 0) (s 0) (keeps 0) w
      by (refused f) w = refl
