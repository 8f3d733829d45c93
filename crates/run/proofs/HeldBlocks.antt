-- The blocks held at the end of a run (specs/Holds) are the received ones. Rule 8.8.
--     holds_sized          each received block has the length of a block
--     same_received        the run's memory holds the blocks that the received file holds
--     same_whole           with every block received, those of the whole file
--     holds_more           with more blocks received, more are held, with the same bytes
-- Rests on the memories of specs/File (proofs/FileMemory).
use mathlib.Core.Path.{◌≡◌, refl, sym, ap, ◌∙◌}
use mathlib.Core.Bool.{true}
use mathlib.Core.List.{List}
use mathlib.Core.Option.{Option, none, some}
use Prim.Native.Nat.{ℕ, ◌<◌}
use native.Mathlib.Omega.{arith}
use lib.ListN.{length, length-replicate}
use Rattle.format.specs.Size.{block_size}
use Rattle.bitmap.specs.Words.{block_count, word_count}
use Rattle.bitmap.specs.Bit.{bit}
use Rattle.intake.specs.Memory.{Memory, block_at}
use Rattle.run.specs.Received.{Received, has}
use Rattle.run.specs.Holds.{Holds}
use Rattle.run.specs.File.{or_zeros, received_file, whole_file, IsWhole}
use Rattle.lists.proofs.Choice.{never}
use Rattle.intake.proofs.RulesPassed.{Accepted}
use Rattle.intake.proofs.BlockBytes.{block_length}
use Rattle.table_walk.proofs.SameBlocks.{SameBlocks, MoreBlocks}
use Rattle.run.proofs.FileMemory.{marked_bit, Sized, order_block}

has_some : (o : Option (List ℕ)) → has o ≡ true → (piece : List ℕ) × (o ≡ some piece)
has_some (some piece) e = (piece, refl)
has_some none e = never (cc)

module _ {len : ℕ} {before m : Memory} {r : Received} (h : Holds len before r m) where
  held_piece : (b : ℕ) → b < block_count len → bit m.map b ≡ true → (piece : List ℕ) × (r b ≡ some piece)
  held_piece b l e = has_some (r b) (sym (h.bits b l) ∙ e)

  pub holds_sized : Accepted len before.image before.map → Sized (block_count len) r
  holds_sized opens b l = by (r b) refl
    where
      long : length (block_at m.image b) ≡ block_size
      long = block_length m.image b (omega (arith, h.image_length, opens.image_long))

      by : (o : Option (List ℕ)) → r b ≡ o → length (or_zeros o) ≡ block_size
      by none e = length-replicate {A = ℕ} block_size 0
      by (some piece) e = ap length (sym (h.blocks b piece l e)) ∙ long

  pub same_received : Accepted len before.image before.map → SameBlocks len m (received_file len r)
  unfolding received_file
  same_received opens =
      record {
        bits = λ b l. h.bits b l ∙ sym (marked_bit (word_count len) (λ (n : ℕ). has (r n)) (block_count len) b l (omega arith));
        bytes = λ b l e.
            let p = held_piece b l e in
            h.blocks b p.0 l p.1 ∙ sym (order_block r (block_count len) b (holds_sized opens) l ∙ ap or_zeros p.1);
      }

  pub same_whole : (file : List ℕ) → IsWhole len r file → SameBlocks len m (whole_file len file)
  unfolding whole_file
  same_whole file w =
      record {
        bits = λ b l. h.bits b l ∙ ap has (w.blocks b l) ∙ sym (marked_bit (word_count len) (λ (n : ℕ). true) (block_count len) b l (omega arith));
        bytes = λ b l e. h.blocks b (block_at file b) l (w.blocks b l);
      }

  pub holds_more : {n : Memory} {s : Received} → ((b : ℕ) (piece : List ℕ) → r b ≡ some piece → s b ≡ some piece) → Holds len before s n → MoreBlocks len m n
  holds_more keeps k =
      record {
        bits = λ b l e. let p = held_piece b l e in k.bits b l ∙ ap has (keeps b p.0 p.1);
        bytes = λ b l e. let p = held_piece b l e in h.blocks b p.0 l p.1 ∙ sym (k.blocks b p.0 l (keeps b p.0 p.1));
      }
