-- Rules 7.6, 7.7: two parts of one length that agree on a row's relevant bytes have the same layout and check;
-- of a row that is good, also its record and its texts are the same.
use mathlib.Core.Path.{◌≡◌, refl, ap, ◌∙◌}
use mathlib.Core.Bool.{true, ◌||◌}
use mathlib.Core.List.{[], ◌∷◌}
use Prim.Native.Nat.{ℕ, zero, suc, ◌+◌, ◌*◌, ◌<◌, ◌≤◌}
use native.Mathlib.Omega.{arith}
use lib.ListN.{length}
use lib.Dec.{ltb, leb}
use borrow.Author.Tests.{ltb-false, leb-false, le-ltb, le-leb}
use Rattle.lists.specs.Alias.{Bytes}
use Rattle.lists.proofs.Any.{any_at}
use Rattle.lists.proofs.Choice.{cond_agree, or_left, or_right, never}
use Rattle.number.specs.Number.{byte_at, le16, le32}
use Rattle.number.specs.Agree.{Agree, within}
use Rattle.number.proofs.NumberAgree.{agree_less, within_less, byte_agree, le16_agree, le32_agree}
use Rattle.refusal.specs.Answer.{given}
use Rattle.text.specs.Text.{read_text}
use Rattle.text.specs.Bytes.{text_byte}
use Rattle.text.proofs.TextAgree.{text_agree}
use Rattle.table.specs.declared.Table.{Table}
use Rattle.table.specs.declared.Table.TheVariants.{Tracks, Genres, Artists, Albums, Labels, Keys, Colors, PlaylistTree, PlaylistEntries, Artwork}
use Rattle.row.specs.declared.Slots.{Slots}
use Rattle.row.specs.declared.Slots.TheVariants.{Nothing, Inline, ByteOffset, WordOffsets}
use Rattle.row.specs.declared.Layout.{Layout}
use Rattle.std.specs.Prelude.{Option, Some, None}
use Rattle.row.specs.Layout.{artist_layout, row_layout, slots_in, slot_start}
use Rattle.row.specs.Check.{check_texts, check_layout, check_row}
use Rattle.row.specs.Record.{row_record, read_record}
use Rattle.row.specs.Slot.{text_in_slot, layout_text, slot_text}
use Rattle.row.specs.Bytes.{slot_byte, layout_byte, subtype_byte, row_byte}
use Rattle.row.proofs.LayoutSound.{OffsetsIn, numbers_part, SoundLayout, layout_sound}
use Rattle.row.proofs.GoodRow.{good_fits}

-- the subtype of an artist row that has `0a` bytes
subtype_agree : {s t : Bytes} → Agree (row_byte Artists s) s t → 0x0a ≤ length s → le16 s 0x00 ≡ le16 t 0x00
unfolding row_byte subtype_byte
subtype_agree {s} {t} a h = le16_agree 0x00 (agree_less byte a)
  where
    byte : (i : ℕ) → within 0x00 2 i ≡ true → row_byte Artists s i ≡ true
    byte i e = rw (le-leb 0x0a (length s) h, e)

artist_agree : {s t : Bytes} → Agree (row_byte Artists s) s t → artist_layout s ≡ artist_layout t
unfolding artist_layout
artist_agree {s} {t} a =
    rw (← a.long) (cond_agree (ltb (length s) 0x0a) (λ _. refl) (λ e. rw (subtype_agree a (ltb-false (length s) 0x0a e))))

layout_agree : (table : Table) {s t : Bytes} → Agree (row_byte table s) s t → row_layout table s ≡ row_layout table t
layout_agree Tracks a = refl
layout_agree Genres a = refl
layout_agree Artists a = artist_agree a
layout_agree Albums a = refl
layout_agree Labels a = refl
layout_agree Keys a = refl
layout_agree Colors a = refl
layout_agree PlaylistTree a = refl
layout_agree PlaylistEntries a = refl
layout_agree Artwork a = refl

layout_bytes : (table : Table) {s t : Bytes} → Agree (row_byte table s) s t → Agree (layout_byte table s (row_layout table s)) s t
unfolding row_byte
layout_bytes table {s} a = agree_less (λ i e. or_right (subtype_byte table s i) e) a

-- numbers in the first bytes
module _ {fixed : ℕ} {s t : Bytes} (a : Agree (within 0 fixed) s t) where
  part : (at size : ℕ) → at + size ≤ fixed → Agree (within at size) s t
  part at size h = agree_less (λ i e. within_less at size 0 fixed i (omega arith) (omega arith) e) a

  n8 : (at : ℕ) → at + 1 ≤ fixed → byte_at s at ≡ byte_at t at
  n8 at h = byte_agree at (part at 1 h)

  n16 : (at : ℕ) → at + 2 ≤ fixed → le16 s at ≡ le16 t at
  n16 at h = le16_agree at (part at 2 h)

  n32 : (at : ℕ) → at + 4 ≤ fixed → le32 s at ≡ le32 t at
  n32 at h = le32_agree at (part at 4 h)

-- a layout whose fixed part fits: the fixed part, and each string
module _ (table : Table) {s t : Bytes} (l : Layout) (fits : l.fixed ≤ length s) (a : Agree (layout_byte table s (Some l)) s t) where
  fitting : Agree (λ (i : ℕ). within 0 l.fixed i || slot_byte table s l.slots i) s t
  fitting = agree_less (λ i e. rw (le-ltb (length s) l.fixed fits) e) a

  fixed_agree : Agree (within 0 l.fixed) s t
  fixed_agree = agree_less (λ i e. or_left _ e) fitting

  string_agree : (slot : ℕ) → slot < slots_in l.slots → Agree (text_byte table slot s (slot_start l.slots s slot)) s t
  unfolding slot_byte
  string_agree slot h =
      agree_less
      (λ i e. or_right (within 0 l.fixed i) (any_at (λ (j : ℕ). text_byte table j s (slot_start l.slots s j) i) (slots_in l.slots) 0 slot (omega arith) (omega arith) e))
      fitting

start_agree : {s t : Bytes} (fixed : ℕ) (slots : Slots) → Agree (within 0 fixed) s t → OffsetsIn fixed slots
    → (slot : ℕ) → slot < slots_in slots → slot_start slots s slot ≡ slot_start slots t slot
start_agree fixed Nothing a inside slot h = refl
start_agree fixed (Inline at) a inside slot h = refl
start_agree fixed (ByteOffset at) a inside slot h = n8 a at (omega arith)
start_agree fixed (WordOffsets count at) a inside slot h = n16 a (at + 2 * slot) (omega arith)

module _ (table : Table) {s t : Bytes} (l : Layout) (fits : l.fixed ≤ length s) (a : Agree (layout_byte table s (Some l)) s t)
    (inside : OffsetsIn l.fixed l.slots) where
  slot_same : (slot : ℕ) → text_in_slot table s l.slots slot ≡ text_in_slot table t l.slots slot
  slot_same slot = cond_agree (leb (slots_in l.slots) slot) (λ _. refl) (λ e. held slot (leb-false (slots_in l.slots) slot e))
    where
      held : (slot : ℕ) → slot < slots_in l.slots → read_text table slot s (slot_start l.slots s slot) ≡ read_text table slot t (slot_start l.slots t slot)
      held slot h =
          text_agree table slot (slot_start l.slots s slot) (string_agree table l fits a slot h)
          ∙ ap (read_text table slot t) (start_agree l.fixed l.slots (fixed_agree table l fits a) inside slot h)

  texts_same : (left slot : ℕ) → check_texts table s l.slots left slot ≡ check_texts table t l.slots left slot
  unfolding check_texts
  texts_same zero slot = refl
  texts_same (suc left) slot = rw (slot_same slot, texts_same left (slot + 1))

check-layout : {s t : Bytes} (table : Table) (l : Option Layout) → SoundLayout table l → Agree (layout_byte table s l) s t → check_layout table s l ≡ check_layout table t l
check-layout {s} table (Some l) sound a =
    rw (← a.long)
    (cond_agree (ltb (length s) l.fixed) (λ _. refl)
    (λ e. texts_same table l (ltb-false (length s) l.fixed e) a sound.offsets (slots_in l.slots) 0))
check-layout table None sound a = refl

pub check_agree : (table : Table) {s t : Bytes} → Agree (row_byte table s) s t → check_row table s ≡ check_row table t
unfolding check_row
check_agree table {s} {t} a =
    check-layout table (row_layout table s) (layout_sound table s) (layout_bytes table a) ∙ ap (check_layout table t) (layout_agree table a)

text_layout : {s t : Bytes} (table : Table) (slot : ℕ) (l : Option Layout) → SoundLayout table l → check_layout table s l ≡ given tt → Agree (layout_byte table s l) s t
    → layout_text table s slot l ≡ layout_text table t slot l
text_layout {s} table slot (Some l) sound good a =
    slot_same table l (good_fits table s l good) a sound.offsets slot
text_layout table slot None sound good a = refl

pub slot_agree : (table : Table) {s t : Bytes} → check_row table s ≡ given tt → Agree (row_byte table s) s t
    → (slot : ℕ) → slot_text table s slot ≡ slot_text table t slot
unfolding slot_text check_row
slot_agree table {s} {t} good a slot =
    text_layout table slot (row_layout table s) (layout_sound table s) good (layout_bytes table a) ∙ ap (layout_text table t slot) (layout_agree table a)

numbers_agree : (table : Table) {s t : Bytes} → check_row table s ≡ given tt → Agree (row_byte table s) s t → Agree (within 0 (numbers_part table)) s t
unfolding check_row
numbers_agree table {s} {t} good a = go (row_layout table s) (layout_sound table s) good (layout_bytes table a)
  where
    go : (l : Option Layout) → SoundLayout table l → check_layout table s l ≡ given tt → Agree (layout_byte table s l) s t → Agree (within 0 (numbers_part table)) s t
    go (Some l) sound g b =
        agree_less (λ i e. within_less 0 (numbers_part table) 0 l.fixed i (omega arith) (omega (arith, sound.numbers)) e)
        (fixed_agree table l (good_fits table s l g) b)
    go None sound g b = never (cc)

pub record_agree : (table : Table) {s t : Bytes} → check_row table s ≡ given tt → Agree (row_byte table s) s t → read_record table s ≡ read_record table t
record_agree table {s} {t} good a = go table (numbers_agree table good a)
  where
    go : (kind : Table) → Agree (within 0 (numbers_part kind)) s t → read_record kind s ≡ read_record kind t
    go Tracks b =
        ap (row_record 0)
        (λ i. n32 b 0x08 (omega arith) i ∷ n32 b 0x0c (omega arith) i ∷ n32 b 0x10 (omega arith) i ∷ n32 b 0x1c (omega arith) i
        ∷ n32 b 0x20 (omega arith) i ∷ n32 b 0x24 (omega arith) i ∷ n32 b 0x28 (omega arith) i ∷ n32 b 0x2c (omega arith) i
        ∷ n32 b 0x30 (omega arith) i ∷ n32 b 0x34 (omega arith) i ∷ n32 b 0x38 (omega arith) i ∷ n32 b 0x3c (omega arith) i
        ∷ n32 b 0x40 (omega arith) i ∷ n32 b 0x44 (omega arith) i ∷ n32 b 0x48 (omega arith) i
        ∷ n16 b 0x4c (omega arith) i ∷ n16 b 0x4e (omega arith) i ∷ n16 b 0x50 (omega arith) i ∷ n16 b 0x52 (omega arith) i ∷ n16 b 0x54 (omega arith) i
        ∷ n8 b 0x58 (omega arith) i ∷ n8 b 0x59 (omega arith) i ∷ [])
    go Genres b = rw (n32 b 0x00 (omega arith))
    go Artists b = rw (n32 b 0x04 (omega arith))
    go Albums b = rw (n32 b 0x08 (omega arith), n32 b 0x0c (omega arith))
    go Labels b = rw (n32 b 0x00 (omega arith))
    go Keys b = rw (n32 b 0x00 (omega arith))
    go Colors b = rw (n16 b 0x05 (omega arith))
    go PlaylistTree b = rw (n32 b 0x00 (omega arith), n32 b 0x08 (omega arith), n32 b 0x0c (omega arith), n32 b 0x10 (omega arith))
    go PlaylistEntries b = rw (n32 b 0x00 (omega arith), n32 b 0x04 (omega arith), n32 b 0x08 (omega arith))
    go Artwork b = rw (n32 b 0x00 (omega arith))
