-- Rule 9.14: strings near the edge between recording codes and others. Rule 9.15: C9 to C12 in every slot.
use Rattle.std.specs.Prelude.{◌≡◌, false, ◌&&◌, List, [], ◌∷◌, map, ℕ, eqb}
use Rattle.lists.specs.Alias.{Bytes}
use Rattle.table.specs.declared.Table.{Table}
use Rattle.table.specs.declared.Table.TheVariants.{Tracks}
use Rattle.table.specs.Table.{table_number}
use Rattle.text.specs.Text.{read_text}
use Rattle.edges.specs.Cases.{Outcome, refusal, text, utf16, Case, ◌is◌, AllHold, outcome, text_outcome}

-- a string in a slot of a table, where these bytes end at the row index
abbrev pub reads : (table : Table) (slot : ℕ) (string : Bytes) → Outcome
reads table slot string = outcome (text_outcome string) (read_text table slot string 0)

-- Rule 9.15
abbrev pub edge_strings : (table : Table) (slot : ℕ) → List Case
edge_strings table slot =
    (reads table slot (0x03 ∷ []) is text []) ∷ (reads table slot (0x01 ∷ []) is refusal 15) ∷
    (reads table slot (0x09 ∷ 0x41 ∷ 0x42 ∷ 0x43 ∷ []) is text (0x41 ∷ 0x42 ∷ 0x43 ∷ [])) ∷
    (reads table slot (0x90 ∷ 0x05 ∷ 0x00 ∷ 0x00 ∷ 0x41 ∷ []) is refusal 15) ∷ []

abbrev pub EverySlot : Type 0
EverySlot = (table : Table) (slot : ℕ) → AllHold (edge_strings table slot)

-- a string, and what it is in slot 0 of a track and in any other slot
pub record NearCode : Type 0 where
  pub string : Bytes
  pub in_isrc : Outcome
  pub elsewhere : Outcome

abbrev pub near : Bytes → Outcome → Outcome → NearCode
near string in_isrc elsewhere = record { string = string; in_isrc = in_isrc; elsewhere = elsewhere }

abbrev pub strings : List NearCode
strings =
    near (0x90 ∷ 0x05 ∷ 0x00 ∷ 0x00 ∷ 0x03 ∷ []) (refusal 15) (refusal 15) ∷
    near (0x90 ∷ 0x06 ∷ 0x00 ∷ 0x00 ∷ 0x03 ∷ 0x00 ∷ []) (text []) (utf16 (0x03 ∷ 0x00 ∷ [])) ∷
    near (0x90 ∷ 0x07 ∷ 0x00 ∷ 0x00 ∷ 0x03 ∷ 0x41 ∷ 0x00 ∷ []) (text (0x41 ∷ [])) (refusal 15) ∷
    near (0x90 ∷ 0x08 ∷ 0x00 ∷ 0x00 ∷ 0x03 ∷ 0x41 ∷ 0x42 ∷ 0x00 ∷ []) (text (0x41 ∷ 0x42 ∷ [])) (utf16 (0x03 ∷ 0x41 ∷ 0x42 ∷ 0x00 ∷ [])) ∷
    near (0x90 ∷ 0x07 ∷ 0x00 ∷ 0x00 ∷ 0x03 ∷ 0xfe ∷ 0x00 ∷ []) (text (0xfe ∷ [])) (refusal 15) ∷
    near (0x90 ∷ 0x09 ∷ 0x00 ∷ 0x00 ∷ 0x03 ∷ 0x41 ∷ 0x00 ∷ 0x42 ∷ 0x00 ∷ []) (text (0x41 ∷ [])) (refusal 15) ∷
    near (0x90 ∷ 0x06 ∷ 0x00 ∷ 0x00 ∷ 0x03 ∷ 0x41 ∷ 0x00 ∷ []) (refusal 15) (utf16 (0x03 ∷ 0x41 ∷ [])) ∷
    near (0x90 ∷ 0x08 ∷ 0x00 ∷ 0x00 ∷ 0x03 ∷ 0x41 ∷ 0x00 ∷ []) (refusal 15) (refusal 15) ∷
    near (0x90 ∷ 0x04 ∷ 0x00 ∷ 0x00 ∷ 0x03 ∷ 0x41 ∷ 0x00 ∷ []) (utf16 []) (utf16 []) ∷
    near (0x90 ∷ 0x06 ∷ 0x00 ∷ 0x00 ∷ 0x41 ∷ 0x00 ∷ []) (utf16 (0x41 ∷ 0x00 ∷ [])) (utf16 (0x41 ∷ 0x00 ∷ [])) ∷
    near (0x90 ∷ 0x07 ∷ 0x00 ∷ 0x00 ∷ 0x41 ∷ 0x00 ∷ 0x00 ∷ []) (refusal 15) (refusal 15) ∷
    near (0x40 ∷ 0x06 ∷ 0x00 ∷ 0x00 ∷ 0x03 ∷ 0x00 ∷ []) (text (0x03 ∷ 0x00 ∷ [])) (text (0x03 ∷ 0x00 ∷ [])) ∷ []

-- Rule 9.14, in slot 0 of a track
abbrev pub InIsrc : Type 0
InIsrc = AllHold (map (λ (n : NearCode). reads Tracks 0 n.string is n.in_isrc) strings)

-- Rule 9.14, in any other slot
abbrev pub Elsewhere : Type 0
Elsewhere =
    (table : Table) (slot : ℕ) → (eqb (table_number table) 0 && eqb slot 0) ≡ false
    → AllHold (map (λ (n : NearCode). reads table slot n.string is n.elsewhere) strings)
