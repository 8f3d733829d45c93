-- Rules 1.1, 2.8, 5.15, 6.11: the ten tables, their numbers and their string slots.
use Rattle.std.specs.Prelude.{◌≡◌, Bool, cond, ◌&&◌, ℕ, eqb, Result}
use Rattle.refusal.specs.Fault.{fault}
use Rattle.refusal.specs.Answer.{Answer, given, refused, answer_of}
use Rattle.refusal.specs.declared.Refusal.{Refusal}
use Rattle.table.specs.declared.Table.{Table}
use Rattle.table.specs.declared.Table.TheVariants.{Tracks, Genres, Artists, Albums, Labels, Keys, Colors, PlaylistTree, PlaylistEntries, Artwork}

abbrev pub table_number : Table → ℕ
table_number Tracks = 0
table_number Genres = 1
table_number Artists = 2
table_number Albums = 3
table_number Labels = 4
table_number Keys = 5
table_number Colors = 6
table_number PlaylistTree = 7
table_number PlaylistEntries = 8
table_number Artwork = 13

-- what the conversion of a table gives
abbrev pub NumberOf : Table → ℕ → Type 0
NumberOf table n = n ≡ table_number table

-- Rules 1.1, 2.8: the table of a number; 8 where it names none of the ten.
unfoldable pub table_of : ℕ → Answer Table
table_of n =
    cond (eqb n 0) (given Tracks)
    (cond (eqb n 1) (given Genres)
    (cond (eqb n 2) (given Artists)
    (cond (eqb n 3) (given Albums)
    (cond (eqb n 4) (given Labels)
    (cond (eqb n 5) (given Keys)
    (cond (eqb n 6) (given Colors)
    (cond (eqb n 7) (given PlaylistTree)
    (cond (eqb n 8) (given PlaylistEntries)
    (cond (eqb n 13) (given Artwork)
    (refused (fault 8 0)))))))))))

-- what the conversion of a number gives, in which 8 stands for every number that names no table
abbrev pub TableOf : ℕ → Result Table Refusal → Type 0
TableOf n res = answer_of res ≡ table_of n

-- Rule 5.15: the number of string slots.
abbrev pub slot_count : Table → ℕ
slot_count Tracks = 21
slot_count Genres = 1
slot_count Artists = 1
slot_count Albums = 1
slot_count Labels = 1
slot_count Keys = 1
slot_count Colors = 1
slot_count PlaylistTree = 1
slot_count PlaylistEntries = 0
slot_count Artwork = 1

-- Rule 6.11: slot 0 of table 0 may hold recording codes, and no other.
unfoldable pub holds_codes : (table : Table) (slot : ℕ) → Bool
holds_codes table slot = eqb (table_number table) 0 && eqb slot 0
