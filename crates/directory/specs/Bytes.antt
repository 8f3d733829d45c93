-- Rule 7.2: the bytes of block 0 that an answer may depend on.
-- Rests on the header's fields (specs/Header).
use Rattle.std.specs.Prelude.{Bool, ◌&&◌, ◌||◌, ℕ, ◌*◌}
use Rattle.lists.specs.Alias.{Bytes}
use Rattle.number.specs.Agree.{within}
use Rattle.directory.specs.Header.{num_tables, allowed_tables, pointer_at}

-- bytes `00`-`03`, len_page and num_tables; the pointers only where their number is allowed
unfoldable pub directory_byte : Bytes → ℕ → Bool
directory_byte block i = within 0x00 0x0c i || (allowed_tables (num_tables block) && within (pointer_at 0) (16 * num_tables block) i)
