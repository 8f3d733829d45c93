-- A table is asked for only where none of refusals 1 to 4 applies, and there it is the one that the number names: rule 2.28.
--     asked_sound, sound_asked     a table that is asked for, and where refusals 1 to 4 do not apply
--     slot_sound, slot_then        the same of a string's table, and what is asked of it
-- Rests on the intake's laws of `check_call`.
use mathlib.Core.Path.{◌≡◌, refl, sym}
use Prim.Native.Nat.{ℕ}
use lib.Dec.{ltb}
use Rattle.refusal.specs.Answer.{Answer, given, refused, and_then}
use Rattle.table.specs.declared.Table.{Table}
use Rattle.table.specs.Table.{table_of, slot_count}
use Rattle.intake.specs.Sound.{Sound}
use Rattle.intake.specs.Memory.{Memory}
use Rattle.table_walk.specs.Asked.{asked_table, with_slot, asked_slot}
use Rattle.intake.proofs.RulesPassed.{call_given, call_passes}
use Rattle.lists.proofs.Choice.{on, never}

module _ (len : ℕ) (m : Memory) (number : ℕ) where
  pub asked_sound : {table : Table} → given table ≡ asked_table len m number → Sound len m
  unfolding asked_table
  asked_sound e = (call_given len m (sym e)).0

  pub sound_asked : Sound len m → asked_table len m number ≡ table_of number
  unfolding asked_table
  sound_asked e = call_passes len m e (table_of number)

  pub slot_sound : {table : Table} (slot : ℕ) → given table ≡ asked_slot len m number slot → Sound len m
  slot_sound {table} slot e = by (asked_table len m number) refl e
    where
      by : (x : Answer Table) → x ≡ asked_table len m number → given table ≡ and_then x (λ t. with_slot slot t (given t)) → Sound len m
      by (given t) q r = asked_sound q
      by (refused f) q r = never (cc)

pub slot_then : {A : Type 0} (slot : ℕ) (rest : Table → Answer A) (x : Answer Table)
    → and_then (and_then x (λ t. with_slot slot t (given t))) rest ≡ and_then x (λ t. with_slot slot t (rest t))
slot_then slot rest (given t) = on (ltb slot (slot_count t)) (λ h. rw h) (λ h. rw h)
slot_then slot rest (refused f) = refl
