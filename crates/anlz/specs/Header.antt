-- Rule 14.2: the header of an ANLZ file, its fields in file order under the published names, and when it is not broken.
use Rattle.std.specs.Prelude.{Bool, ◌&&◌, ℕ, ◌+◌, ◌*◌, length, leb, eqb}
use Rattle.lists.specs.Alias.{Bytes}
use Rattle.number.specs.Number.{be32}

-- a code as a number: four bytes, the high one first
abbrev pub four_bytes : (a b c d : ℕ) → ℕ
four_bytes a b c d = 16777216 * a + 65536 * b + 256 * c + d

-- P, M, A, I
abbrev pub pmai : ℕ
pmai = four_bytes 0x50 0x4d 0x41 0x49

-- the least length of a header, of the file or of a section: a code and two lengths
abbrev pub envelope : ℕ
envelope = 12

abbrev pub file_code : Bytes → ℕ
file_code file = be32 file 0x00

abbrev pub len_header : Bytes → ℕ
len_header file = be32 file 0x04

abbrev pub len_file : Bytes → ℕ
len_file file = be32 file 0x08

-- the envelope is there, the code is PMAI, len_file is the length of these bytes, and len_header is from 12 to len_file
unfoldable pub header_holds : Bytes → Bool
header_holds file =
    leb envelope (length file)
    && (eqb (file_code file) pmai && (eqb (len_file file) (length file) && (leb envelope (len_header file) && leb (len_header file) (len_file file))))
