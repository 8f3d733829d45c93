-- Rules 5.11 to 5.13: fixed parts and strings by table. A row is its own part of the page, from its start to where the row index begins.
use Rattle.std.specs.Prelude.{cond, ℕ, ◌+◌, ◌*◌, length, ltb, eqb, Option, Some, None}
use Rattle.lists.specs.Alias.{Bytes}
use Rattle.number.specs.Number.{byte_at, le16}
use Rattle.table.specs.declared.Table.{Table}
use Rattle.table.specs.declared.Table.TheVariants.{Tracks, Genres, Artists, Albums, Labels, Keys, Colors, PlaylistTree, PlaylistEntries, Artwork}
use Rattle.row.specs.declared.Slots.{Slots}
use Rattle.row.specs.declared.Slots.TheVariants.{Nothing, Inline, ByteOffset, WordOffsets}
use Rattle.row.specs.declared.Layout.{Layout}

abbrev pub layout_with : (fixed : ℕ) (slots : Slots) → Layout
layout_with fixed slots = record { fixed = fixed; slots = slots }

-- Rule 5.12: `0a` bytes, then the subtype at `00`.
unfoldable pub artist_layout : (row : Bytes) → Option Layout
artist_layout row =
    cond (ltb (length row) 0x0a) None
    (cond (eqb (le16 row 0x00) 0x0060) (Some (layout_with 0x0a (ByteOffset 0x09)))
    (cond (eqb (le16 row 0x00) 0x0064) (Some (layout_with 0x0c (WordOffsets 1 0x0a))) None))

-- Rule 5.11: fixed part and strings, table by table.
abbrev pub row_layout : (table : Table) (row : Bytes) → Option Layout
row_layout Tracks row = Some (layout_with 0x88 (WordOffsets 21 0x5e))
row_layout Genres row = Some (layout_with 0x04 (Inline 0x04))
row_layout Artists row = artist_layout row
row_layout Albums row = Some (layout_with 0x16 (ByteOffset 0x15))
row_layout Labels row = Some (layout_with 0x04 (Inline 0x04))
row_layout Keys row = Some (layout_with 0x08 (Inline 0x08))
row_layout Colors row = Some (layout_with 0x08 (Inline 0x08))
row_layout PlaylistTree row = Some (layout_with 0x14 (Inline 0x14))
row_layout PlaylistEntries row = Some (layout_with 0x0c Nothing)
row_layout Artwork row = Some (layout_with 0x04 (Inline 0x04))

-- the number of slots
abbrev pub slots_in : Slots → ℕ
slots_in Nothing = 0
slots_in (Inline at) = 1
slots_in (ByteOffset at) = 1
slots_in (WordOffsets count at) = count

-- Rule 5.13: where the string of a slot starts, from the row's start.
abbrev pub slot_start : (slots : Slots) (row : Bytes) (slot : ℕ) → ℕ
slot_start Nothing row slot = 0
slot_start (Inline at) row slot = at
slot_start (ByteOffset at) row slot = byte_at row at
slot_start (WordOffsets count at) row slot = le16 row (at + 2 * slot)
