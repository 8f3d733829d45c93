-- The loop of `check_texts`: slots before this one hold good strings, and the whole answer is that of the slots left. Rule 5.9.
use mathlib.Core.Path.{◌≡◌, sym, ◌∙◌}
use Prim.Native.Nat.{ℕ, ◌+◌, ◌-◌, ◌<◌, ◌≤◌}
use native.Mathlib.Nat.{sub-zero}
use native.Mathlib.Omega.{arith}
use Rattle.lists.specs.Alias.{Bytes}
use Rattle.lists.proofs.Choice.{left_step}
use Rattle.refusal.specs.declared.Fault.{Fault}
use Rattle.refusal.specs.Answer.{given, refused, and_then}
use Rattle.text.specs.Text.{TextAt}
use Rattle.table.specs.declared.Table.{Table}
use Rattle.row.specs.declared.Slots.{Slots}
use Rattle.row.specs.Slot.{text_in_slot}
use Rattle.row.specs.Check.{check_texts}

pub record Checked (table : Table) (row : Bytes) (slots : Slots) (n slot : ℕ) : Type 0 where
  pub inside : slot ≤ n
  pub rest : check_texts table row slots n 0 ≡ check_texts table row slots (n - slot) slot

pub begin : (table : Table) (row : Bytes) (slots : Slots) (n : ℕ) → Checked table row slots n 0
begin table row slots n = record { inside = omega arith; rest = rw (sub-zero n) }

module _ {table : Table} {row : Bytes} {slots : Slots} {n slot : ℕ} (c : Checked table row slots n slot) where
  pub end : n ≤ slot → given tt ≡ check_texts table row slots n 0
  unfolding check_texts
  end h = let z : n - slot ≡ 0 = omega arith in sym (c.rest ∙ rw z)

  module _ (h : slot < n) where
    turn : check_texts table row slots n 0 ≡ and_then (text_in_slot table row slots slot) (λ _. check_texts table row slots (n - (slot + 1)) (slot + 1))
    unfolding check_texts
    turn = c.rest ∙ rw (left_step h)

    pub good : {text : TextAt} → given text ≡ text_in_slot table row slots slot → Checked table row slots n (slot + 1)
    good e = record { inside = omega arith; rest = turn ∙ rw (← e) }

    pub bad : {fault : Fault} → refused fault ≡ text_in_slot table row slots slot → refused fault ≡ check_texts table row slots n 0
    bad e = sym (turn ∙ rw (← e))
