-- Rules 5.8, 5.9: what is known of a row that the check gives.
--     empty_row      no row fits in no bytes
--     good_some      a good row has a byte
--     good_fits      its fixed part fits
--     good_text      each slot of its table holds a well-formed string
use mathlib.Core.Path.{◌≡◌, refl, sym, ◌∙◌}
use mathlib.Core.Logic.{⊎_elim}
use mathlib.Core.List.{[], ◌∷◌}
use mathlib.Core.Option.{none}
use Prim.Native.Nat.{ℕ, zero, suc, ◌+◌, ◌<◌, ◌≤◌}
use native.Mathlib.Nat.{eq-or-lt_of_le}
use native.Mathlib.Omega.{arith}
use lib.ListN.{length}
use lib.Dec.{ltb}
use borrow.Author.Tests.{ltb-false}
use Rattle.lists.specs.Alias.{Bytes}
use Rattle.lists.proofs.Choice.{on, never}
use Rattle.refusal.specs.Fault.{fault}
use Rattle.refusal.specs.Answer.{Answer, given, refused, and_then, fault_in}
use Rattle.text.specs.Text.{TextAt}
use Rattle.table.specs.declared.Table.{Table}
use Rattle.table.specs.declared.Table.TheVariants.{Tracks, Genres, Artists, Albums, Labels, Keys, Colors, PlaylistTree, PlaylistEntries, Artwork}
use Rattle.table.specs.Table.{slot_count}
use Rattle.row.specs.declared.Slots.{Slots}
use Rattle.row.specs.declared.Layout.{Layout}
use Rattle.std.specs.Prelude.{Option, Some, None}
use Rattle.row.specs.Layout.{artist_layout, row_layout, slots_in}
use Rattle.row.specs.Check.{check_texts, check_layout, check_row}
use Rattle.row.specs.Slot.{text_in_slot, layout_text, slot_text}
use Rattle.row.proofs.LayoutSound.{SoundLayout, layout_sound}

pub empty_row : (table : Table) → check_row table [] ≡ refused (fault 14 0)
unfolding check_row artist_layout
empty_row Tracks = refl
empty_row Genres = refl
empty_row Artists = refl
empty_row Albums = refl
empty_row Labels = refl
empty_row Keys = refl
empty_row Colors = refl
empty_row PlaylistTree = refl
empty_row PlaylistEntries = refl
empty_row Artwork = refl

not_refused : {A : Type 0} {x : A} → refused (fault 14 0) ≡ given x → ⊥
not_refused e = never (cc)

pub good_some : (table : Table) (row : Bytes) → check_row table row ≡ given tt → 0 < length row
good_some table [] e = absurd (not_refused (sym (empty_row table) ∙ e))
good_some table (b ∷ row) e = omega arith

pub good_fits : (table : Table) (row : Bytes) (l : Layout) → check_layout table row (Some l) ≡ given tt → l.fixed ≤ length row
good_fits table row l e = on (ltb (length row) l.fixed) (λ f. absurd (not_refused (rw f at e))) (λ f. ltb-false (length row) l.fixed f)

good_texts : (table : Table) (row : Bytes) (l : Layout) → check_layout table row (Some l) ≡ given tt
    → check_texts table row l.slots (slots_in l.slots) 0 ≡ given tt
good_texts table row l e = on (ltb (length row) l.fixed) (λ f. absurd (not_refused (rw f at e))) (λ f. rw f at e)

-- one of the slots that were checked
texts_given : (table : Table) (row : Bytes) (slots : Slots) (left slot : ℕ) → check_texts table row slots left slot ≡ given tt
    → (s : ℕ) → slot ≤ s → s < slot + left → fault_in (text_in_slot table row slots s) ≡ none
unfolding check_texts
texts_given table row slots zero slot e s h l = absurd (omega arith)
texts_given table row slots (suc left) slot e s h l =
    go (text_in_slot table row slots slot) refl (λ r k. texts_given table row slots left (slot + 1) r s k (omega arith)) e
  where
    go : (found : Answer TextAt) → text_in_slot table row slots slot ≡ found
        → (check_texts table row slots left (slot + 1) ≡ given tt → slot + 1 ≤ s → fault_in (text_in_slot table row slots s) ≡ none)
        → and_then found (λ _. check_texts table row slots left (slot + 1)) ≡ given tt → fault_in (text_in_slot table row slots s) ≡ none
    go (given text) q later r = ⊎_elim (λ p. rw (← p, q)) (λ p. later r (omega arith)) (eq-or-lt_of_le h)
    go (refused f) q later r = never (cc)

pub good_text : (table : Table) (row : Bytes) (slot : ℕ) → check_row table row ≡ given tt → slot < slot_count table → fault_in (slot_text table row slot) ≡ none
unfolding check_row slot_text
good_text table row slot e h = go (row_layout table row) (layout_sound table row) e
  where
    go : (l : Option Layout) → SoundLayout table l → check_layout table row l ≡ given tt → fault_in (layout_text table row slot l) ≡ none
    go (Some l) sound g =
        let inside : slot < slots_in l.slots = rw sound.count h in
        texts_given table row l.slots (slots_in l.slots) 0 (good_texts table row l g) slot (omega arith) (omega arith)
    go None sound g = absurd (not_refused g)
