-- Rules 5.16 to 5.18: the record of a row, its table's number and its numbers in order, under their published names.
use Rattle.std.specs.Prelude.{List, [], ◌∷◌, ℕ}
use Rattle.lists.specs.Alias.{Bytes}
use Rattle.number.specs.Number.{byte_at, le16, le32}
use Rattle.table.specs.declared.Table.{Table}
use Rattle.table.specs.declared.Table.TheVariants.{Tracks, Genres, Artists, Albums, Labels, Keys, Colors, PlaylistTree, PlaylistEntries, Artwork}
use Rattle.row.specs.declared.Track.{Track}
use Rattle.row.specs.declared.Record.{Record}
use Rattle.row.specs.declared.Record.TheVariants as kind

pub record RowRecord : Type 0 where
  pub table : ℕ
  pub numbers : List ℕ

abbrev pub row_record : (table : ℕ) (numbers : List ℕ) → RowRecord
row_record table numbers = record { table = table; numbers = numbers }

-- Rule 5.17, in the order of the offsets.
abbrev pub track_numbers : (row : Bytes) → List ℕ
track_numbers row =
    le32 row 0x08 ∷  -- sample_rate
    le32 row 0x0c ∷  -- composer_id
    le32 row 0x10 ∷  -- file_size
    le32 row 0x1c ∷  -- artwork_id
    le32 row 0x20 ∷  -- key_id
    le32 row 0x24 ∷  -- original_artist_id
    le32 row 0x28 ∷  -- label_id
    le32 row 0x2c ∷  -- remixer_id
    le32 row 0x30 ∷  -- bitrate
    le32 row 0x34 ∷  -- track_number
    le32 row 0x38 ∷  -- tempo
    le32 row 0x3c ∷  -- genre_id
    le32 row 0x40 ∷  -- album_id
    le32 row 0x44 ∷  -- artist_id
    le32 row 0x48 ∷  -- id
    le16 row 0x4c ∷  -- disc_number
    le16 row 0x4e ∷  -- play_count
    le16 row 0x50 ∷  -- year
    le16 row 0x52 ∷  -- sample_depth
    le16 row 0x54 ∷  -- duration
    byte_at row 0x58 ∷  -- color_id
    byte_at row 0x59 ∷ []  -- rating

-- Rule 5.16.
abbrev pub read_record : (table : Table) (row : Bytes) → RowRecord
read_record Tracks row = row_record 0 (track_numbers row)
read_record Genres row = row_record 1 (le32 row 0x00 ∷ [])  -- id
read_record Artists row = row_record 2 (le32 row 0x04 ∷ [])  -- id
read_record Albums row = row_record 3 (le32 row 0x08 ∷ le32 row 0x0c ∷ [])  -- artist_id, id
read_record Labels row = row_record 4 (le32 row 0x00 ∷ [])  -- id
read_record Keys row = row_record 5 (le32 row 0x00 ∷ [])  -- id
read_record Colors row = row_record 6 (le16 row 0x05 ∷ [])  -- id
read_record PlaylistTree row = row_record 7 (le32 row 0x00 ∷ le32 row 0x08 ∷ le32 row 0x0c ∷ le32 row 0x10 ∷ [])  -- parent_id, sort_order, id, raw_is_folder
read_record PlaylistEntries row = row_record 8 (le32 row 0x00 ∷ le32 row 0x04 ∷ le32 row 0x08 ∷ [])  -- entry_index, track_id, playlist_id
read_record Artwork row = row_record 13 (le32 row 0x00 ∷ [])  -- id

-- the numbers of a track's struct, in the same order
abbrev pub track_of : Track → List ℕ
track_of t =
    t.sample_rate ∷ t.composer_id ∷ t.file_size ∷ t.artwork_id ∷ t.key_id ∷ t.original_artist_id
    ∷ t.label_id ∷ t.remixer_id ∷ t.bitrate ∷ t.track_number ∷ t.tempo ∷ t.genre_id ∷ t.album_id
    ∷ t.artist_id ∷ t.id ∷ t.disc_number ∷ t.play_count ∷ t.year ∷ t.sample_depth ∷ t.duration
    ∷ t.color_id ∷ t.rating ∷ []

-- the record for each case of the code's enum
abbrev pub record_of : Record → RowRecord
record_of (kind.Track t) = row_record 0 (track_of t)
record_of (kind.Genre id) = row_record 1 (id ∷ [])
record_of (kind.Artist id) = row_record 2 (id ∷ [])
record_of (kind.Album artist id) = row_record 3 (artist ∷ id ∷ [])
record_of (kind.Label id) = row_record 4 (id ∷ [])
record_of (kind.Key id) = row_record 5 (id ∷ [])
record_of (kind.Color id) = row_record 6 (id ∷ [])
record_of (kind.PlaylistNode parent order id folder) = row_record 7 (parent ∷ order ∷ id ∷ folder ∷ [])
record_of (kind.PlaylistEntry index track playlist) = row_record 8 (index ∷ track ∷ playlist ∷ [])
record_of (kind.Artwork id) = row_record 13 (id ∷ [])
