-- Rule 7.11: bytes past L and words past those in use change no answer to a question, nor the list afterwards: `in_use_only`.
-- Rests on intake's laws of such places and on run's law of memories with the same held blocks.
use mathlib.Core.Path.{◌≡◌, refl, sym, ◌∙◌}
use Prim.Native.Nat.{ℕ}
use native.Mathlib.Omega.{arith}
use Rattle.refusal.specs.declared.Fault.{Fault}
use Rattle.refusal.specs.Answer.{Answer, given, refused}
use Rattle.table.specs.Table.{table_of}
use Rattle.intake.specs.Check.{check_call}
use Rattle.intake.specs.Memory.{Memory}
use Rattle.intake.specs.InUse.{SameInUse}
use Rattle.table_walk.specs.Asked.{asked_table}
use Rattle.export.specs.Rows.{ask_rows}
use Rattle.export.specs.Record.{ask_record}
use Rattle.export.specs.Text.{ask_text}
use Rattle.run.specs.Call.{Question, all_rows, one_record, one_text, answer}
use Rattle.intake.proofs.RulesPassed.{call_refused}
use Rattle.intake.proofs.PastInUse.{bit_agree, block_agree, call_agree}
use Rattle.table_walk.proofs.SameBlocks.{SameBlocks}
use Rattle.run.proofs.Demand.{answer_same}

-- what refusals 1 to 4 answer
abbrev pub checked : ℕ → Memory → Answer Unit
checked len m = check_call len m (given tt)

-- a table that is asked for is refused by the same fault
pub asked_refused : (len : ℕ) (m : Memory) (number : ℕ) {f : Fault} → checked len m ≡ refused f → asked_table len m number ≡ refused f
unfolding asked_table
asked_refused len m number e = call_refused len m e (table_of number)

module _ {len : ℕ} {m n : Memory} (a : SameInUse len m n) where
  pub same_blocks : SameBlocks len m n
  same_blocks = record { bits = λ b h. bit_agree a b (omega arith); bytes = λ b h e. block_agree a b h }

  -- refused by 1 to 4, whatever is asked
  both_refused : {f : Fault} → checked len m ≡ refused f → checked len n ≡ refused f → (q : Question) → answer len m q ≡ answer len n q
  unfolding ask_rows ask_record ask_text
  both_refused e g (all_rows number list) = rw (asked_refused len m number e, asked_refused len n number g) refl
  both_refused e g (one_record number k) = rw (asked_refused len m number e, asked_refused len n number g) refl
  both_refused e g (one_text number k slot) = rw (asked_refused len m number e, asked_refused len n number g) refl

  pub in_use_only : (q : Question) → answer len m q ≡ answer len n q
  in_use_only q = by (checked len m) refl
    where
      by : (c : Answer Unit) → checked len m ≡ c → answer len m q ≡ answer len n q
      by (given u) e = answer_same e (sym (call_agree a refl) ∙ e) same_blocks q
      by (refused f) e = both_refused e (sym (call_agree a refl) ∙ e) q
