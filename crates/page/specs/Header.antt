-- Rules 4.11 to 4.14, 4.19: the page header, in file order, under the published names; those of the row counts are ours.
use Rattle.std.specs.Prelude.{Bool, ◌&&◌, ℕ, ◌/◌, ◌%◌, ◌^◌, eqb}
use Rattle.lists.specs.Alias.{Bytes}
use Rattle.number.specs.Number.{byte_at, le24, le32}
use Rattle.table.specs.declared.Table.{Table}
use Rattle.table.specs.Table.{table_number}

abbrev pub page_index : Bytes → ℕ
page_index page = le32 page 0x04

abbrev pub type : Bytes → ℕ
type page = le32 page 0x08

abbrev pub next_page : Bytes → ℕ
next_page page = le32 page 0x0c

-- Rule 4.14: the three bytes from `18` on are one number of 24 bits that holds two counts.
abbrev pub row_counts : Bytes → ℕ
row_counts page = le24 page 0x18

abbrev pub page_flags : Bytes → ℕ
page_flags page = byte_at page 0x1b

-- Rule 4.12: the page names itself, 12 where it does not.
unfoldable pub number_agrees : (number : ℕ) (page : Bytes) → Bool
number_agrees number page = eqb (page_index page) number

-- Rule 4.19: it names the table that is asked for, 25 where it does not.
unfoldable pub type_agrees : (table : Table) (page : Bytes) → Bool
type_agrees table page = eqb (type page) (table_number table)

-- Rules 4.12, 4.19: both.
abbrev pub header_agrees : (number : ℕ) (table : Table) (page : Bytes) → Bool
header_agrees number table page = number_agrees number page && type_agrees table page

-- Rule 4.13: flag `40`.
unfoldable pub rowless : Bytes → Bool
rowless page = eqb (page_flags page / 0x40 % 2) 1

-- Rule 4.14: n, the number of entries in the row index: the low 13 bits.
unfoldable pub entries : Bytes → ℕ
entries page = row_counts page % 2 ^ 13

-- Rule 4.14: the number of present rows, as the page counts them: the high 11 bits.
unfoldable pub num_rows : Bytes → ℕ
num_rows page = row_counts page / 2 ^ 13
