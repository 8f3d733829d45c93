-- Names for the lists that definitions take: the bytes of a slice, the words of a map and other numbers, and places of rows, in the image or in a page.
use Rattle.std.specs.Prelude.{List, ℕ}

abbrev pub Bytes : Type 0
Bytes = List ℕ

abbrev pub Words : Type 0
Words = List ℕ

abbrev pub Places : Type 0
Places = List ℕ
