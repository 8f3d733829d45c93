-- The theorem (specs/Depend): rules 7.1 and 7.9 to 7.13 for every question.
-- Rests on the files above it in proofs/Lib.
use mathlib.Core.Path.{◌≡◌, refl, ap, ◌∙◌}
use mathlib.Core.Bool.{not}
use Prim.Native.Nat.{ℕ}
use lib.ListN.{length}
use lib.Dec.{ltb}
use Rattle.lists.specs.Alias.{Bytes, Words, Places}
use Rattle.number.specs.Agree.{Agree, DecidedBy}
use Rattle.refusal.specs.Answer.{Answer, given, refused, and_then}
use Rattle.table.specs.declared.Table.{Table}
use Rattle.table.specs.Table.{slot_count}
use Rattle.intake.specs.Check.{check_lengths, check_call}
use Rattle.intake.specs.Memory.{Memory, memory}
use Rattle.table_walk.specs.Asked.{asked_table, with_slot, asked_slot}
use Rattle.table_walk.specs.Walk.{page_size, table_walk}
use Rattle.export.specs.Rows.{settle_rows, ask_rows}
use Rattle.export.specs.Record.{table_record, ask_record}
use Rattle.export.specs.Text.{table_text, ask_text}
use Rattle.run.specs.Call.{Question, all_rows, one_record, one_text, rows, row, text}
use Rattle.depend.specs.Bytes.{relevant_in, relevant}
use Rattle.depend.specs.Depend.{answer_on, SameRows, EveryQuestion}
use Rattle.lists.proofs.Choice.{on}
use Rattle.number.proofs.NumberAgree.{agree_less}
use Rattle.export.proofs.Questions.{by_size}
use Rattle.depend.proofs.WalkAgree.{table_size, walk_agree}
use Rattle.depend.proofs.FoundRowAgree.{record_row, text_row}
use Rattle.depend.proofs.RelevantHeld.{relevant_held}
use Rattle.depend.proofs.RelevantRead.{relevant_read}
use Rattle.depend.proofs.InUseOnly.{in_use_only}
use Rattle.depend.proofs.ListLength.{length_decides}

module _ (len : ℕ) (map : Words) (s t : Bytes) where
  abbrev m : Memory
  m = memory s map

  abbrev n : Memory
  n = memory t map

  pub asked_same : length s ≡ length t → (number : ℕ) → asked_table len m number ≡ asked_table len n number
  unfolding asked_table check_call check_lengths
  asked_same long number = rw long

  rows_agree : (number : ℕ) (list : Places) → Agree (relevant_in len m (asked_table len m number)) s t → ask_rows len m number list ≡ ask_rows len n number list
  unfolding ask_rows
  rows_agree number list a = rw (← asked_same a.long number) (by (asked_table len m number) a)
    where
      by : (x : Answer Table) → Agree (relevant_in len m x) s t
          → settle_rows (page_size m) list (and_then x (table_walk len m)) ≡ settle_rows (page_size n) list (and_then x (table_walk len n))
      by (given table) b = by_size len m table list (table_size len map s t table b) ∙ ap (settle_rows (page_size n) list) (walk_agree len map s t table b)
      by (refused f) b = refl

  record_agree : (number k : ℕ) → Agree (relevant_in len m (asked_table len m number)) s t → ask_record len m number k ≡ ask_record len n number k
  unfolding ask_record
  record_agree number k a = rw (← asked_same a.long number) (by (asked_table len m number) refl a)
    where
      by : (x : Answer Table) → x ≡ asked_table len m number → Agree (relevant_in len m x) s t → and_then x (table_record len m k) ≡ and_then x (table_record len n k)
      by (given table) e b = record_row len map s t table b k
      by (refused f) e b = refl

  text_agree : (number k slot : ℕ) → Agree (relevant_in len m (asked_slot len m number slot)) s t
      → ask_text len m number k slot ≡ ask_text len n number k slot
  unfolding ask_text
  text_agree number k slot a = rw (← asked_same a.long number) (by (asked_table len m number) refl a)
    where
      by : (x : Answer Table) → x ≡ asked_table len m number → Agree (relevant_in len m (and_then x (λ table. with_slot slot table (given table)))) s t
          → and_then x (table_text len m k slot) ≡ and_then x (table_text len n k slot)
      by (given table) e b =
          on (ltb slot (slot_count table)) (λ h. rw h (text_row len map s t table (rw h at b) k slot)) (λ h. rw h)
      by (refused f) e b = refl

module _ (len : ℕ) (map : Words) where
  those : (q : Question) (image : Bytes) → DecidedBy (relevant len (memory image map) q) (answer_on len map q) image
  unfolding relevant
  those (all_rows number list) image other a = ap rows (rows_agree len map image other number list a)
  those (one_record number k) image other a = ap row (record_agree len map image other number k a)
  those (one_text number k slot) image other a = ap text (text_agree len map image other number k slot a)

  lists : (image : Bytes) (table : ℕ) (list other : Places) → length list ≡ length other
      → SameRows list other (ask_rows len (memory image map) table list) (ask_rows len (memory image map) table other)
  unfolding ask_rows
  lists image table list other long =
      length_decides (page_size (memory image map)) list other long (and_then (asked_table len (memory image map) table) (table_walk len (memory image map)))

pub depends : EveryQuestion
depends len map q image =
    record {
      those = those len map q image;
      held = λ other a. those len map q image other (agree_less (relevant_held len (memory image map) q) a);
      others = λ other a. those len map q image other (agree_less (λ i e. ap not (relevant_read len (memory image map) q i e)) a);
      in_use = λ other words a. in_use_only a q;
      lists = lists len map image;
    }
