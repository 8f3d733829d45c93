-- Rules 5.11, 5.15, 5.17: the offsets of a row's strings and the numbers of its record stand in its fixed part,
-- and a layout has as many slots as its table.
use mathlib.Core.Path.{◌≡◌, refl}
use Prim.Native.Nat.{ℕ, ◌+◌, ◌*◌, ◌<◌, ◌≤◌}
use native.Mathlib.Omega.{arith}
use lib.ListN.{length}
use lib.Dec.{ltb, eqb}
use Rattle.lists.specs.Alias.{Bytes}
use Rattle.number.specs.Number.{le16}
use Rattle.table.specs.declared.Table.{Table}
use Rattle.table.specs.declared.Table.TheVariants.{Tracks, Genres, Artists, Albums, Labels, Keys, Colors, PlaylistTree, PlaylistEntries, Artwork}
use Rattle.row.specs.declared.Slots.{Slots}
use Rattle.row.specs.declared.Slots.TheVariants.{Nothing, Inline, ByteOffset, WordOffsets}
use Rattle.row.specs.declared.Layout.{Layout}
use Rattle.std.specs.Prelude.{Option, Some, None}
use Rattle.row.specs.Layout.{artist_layout, row_layout, slots_in}
use Rattle.table.specs.Table.{slot_count}
use Rattle.lists.proofs.Choice.{cond_holds}

-- the offsets stand in the first fixed bytes
abbrev pub OffsetsIn : (fixed : ℕ) (slots : Slots) → Type 0
OffsetsIn fixed Nothing = Unit {0}
OffsetsIn fixed (Inline at) = Unit {0}
OffsetsIn fixed (ByteOffset at) = at < fixed
OffsetsIn fixed (WordOffsets count at) = at + 2 * count ≤ fixed

-- the first bytes of a row, which hold its record's numbers
abbrev pub numbers_part : Table → ℕ
numbers_part Tracks = 0x88
numbers_part Genres = 0x04
numbers_part Artists = 0x0a
numbers_part Albums = 0x16
numbers_part Labels = 0x04
numbers_part Keys = 0x08
numbers_part Colors = 0x08
numbers_part PlaylistTree = 0x14
numbers_part PlaylistEntries = 0x0c
numbers_part Artwork = 0x04

pub record Sound (table : Table) (fixed : ℕ) (slots : Slots) : Type 0 where
  pub numbers : numbers_part table ≤ fixed
  pub offsets : OffsetsIn fixed slots
  pub count : slots_in slots ≡ slot_count table

abbrev pub SoundLayout : Table → Option Layout → Type 0
SoundLayout table (Some l) = Sound table l.fixed l.slots
SoundLayout table None = Unit {0}

artist_sound : (row : Bytes) → SoundLayout Artists (artist_layout row)
unfolding artist_layout
artist_sound row =
    cond_holds (SoundLayout Artists) (ltb (length row) 0x0a) (λ e. tt)
    (λ e. cond_holds (SoundLayout Artists) (eqb (le16 row 0x00) 0x0060) (λ f. record { numbers = omega arith; offsets = omega arith; count = refl })
    (λ f. cond_holds (SoundLayout Artists) (eqb (le16 row 0x00) 0x0064) (λ g. record { numbers = omega arith; offsets = omega arith; count = refl }) (λ g. tt)))

pub layout_sound : (table : Table) (row : Bytes) → SoundLayout table (row_layout table row)
layout_sound Tracks row = record { numbers = omega arith; offsets = omega arith; count = refl }
layout_sound Genres row = record { numbers = omega arith; offsets = tt; count = refl }
layout_sound Artists row = artist_sound row
layout_sound Albums row = record { numbers = omega arith; offsets = omega arith; count = refl }
layout_sound Labels row = record { numbers = omega arith; offsets = tt; count = refl }
layout_sound Keys row = record { numbers = omega arith; offsets = tt; count = refl }
layout_sound Colors row = record { numbers = omega arith; offsets = tt; count = refl }
layout_sound PlaylistTree row = record { numbers = omega arith; offsets = tt; count = refl }
layout_sound PlaylistEntries row = record { numbers = omega arith; offsets = tt; count = refl }
layout_sound Artwork row = record { numbers = omega arith; offsets = tt; count = refl }
