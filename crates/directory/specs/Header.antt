-- The file header in block 0, its fields in file order under the published names, and when it is not broken.
-- Rules 3.1 and 3.3 to 3.8. Rests on the numbers of crate `number`.
use Rattle.std.specs.Prelude.{Bool, not, ◌&&◌, ℕ, ◌+◌, ◌*◌, ◌%◌, leb, eqb}
use Rattle.lists.specs.Alias.{Bytes}
use Rattle.lists.specs.Any.{any_from}
use Rattle.number.specs.Number.{le32}
use Rattle.format.specs.Size.{block_size}

-- bytes `00`-`03`
abbrev pub zeros : Bytes → ℕ
zeros block = le32 block 0x00

abbrev pub len_page : Bytes → ℕ
len_page block = le32 block 0x04

abbrev pub num_tables : Bytes → ℕ
num_tables block = le32 block 0x08

-- Rule 3.8: where pointer i starts
abbrev pub pointer_at : ℕ → ℕ
pointer_at i = 0x1c + 16 * i

abbrev pub type : Bytes → ℕ → ℕ
type block i = le32 block (pointer_at i)

abbrev pub empty_candidate : Bytes → ℕ → ℕ
empty_candidate block i = le32 block (pointer_at i + 0x04)

abbrev pub first_page : Bytes → ℕ → ℕ
first_page block i = le32 block (pointer_at i + 0x08)

abbrev pub last_page : Bytes → ℕ → ℕ
last_page block i = le32 block (pointer_at i + 0x0c)

-- Rule 3.5, in a file of len bytes
unfoldable pub allowed_page : ℕ → ℕ → Bool
allowed_page len size = leb block_size size && (leb size 32_768 && (eqb (size % block_size) 0 && eqb (len % size) 0))

-- Rule 3.6
unfoldable pub allowed_tables : ℕ → Bool
allowed_tables n = leb 1 n && leb n 30

-- is true exactly when one of the first n pointers has type t
unfoldable pub has_type : (block : Bytes) (n t : ℕ) → Bool
has_type block n t = any_from (λ (i : ℕ). eqb (type block i) t) n 0

-- is true exactly when one of the first n pointers has the type of one before it
unfoldable pub type_twice : Bytes → ℕ → Bool
type_twice block n = any_from (λ (i : ℕ). has_type block i (type block i)) n 0

-- Rules 3.6 and 3.7
unfoldable pub tables_hold : Bytes → ℕ → Bool
tables_hold block n = allowed_tables n && not (type_twice block n)

-- Rule 3.3: the header of a file of len bytes breaks none of rules 3.4 to 3.7
unfoldable pub header_holds : ℕ → Bytes → Bool
header_holds len block = eqb (zeros block) 0 && (allowed_page len (len_page block) && tables_hold block (num_tables block))
