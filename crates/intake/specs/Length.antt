-- Rule 1.6: the lengths that a file may have.
use Rattle.std.specs.Prelude.{Bool, ◌&&◌, ℕ, ◌%◌, eqb, leb}
use Rattle.format.specs.Size.{block_size}

abbrev pub longest : ℕ
longest = 268_435_456

unfoldable pub allowed_length : ℕ → Bool
allowed_length len = eqb (len % block_size) 0 && (leb block_size len && leb len longest)
