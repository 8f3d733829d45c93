-- Rule 14.3: a file too long for a length of 32 bits is refused with 20. It follows from rule 14.2: no len_file is the length of such a file.
use Rattle.std.specs.Prelude.{◌≡◌, ℕ, ◌<◌, ◌≤◌, length}
use Rattle.lists.specs.Alias.{Bytes}
use Rattle.number.specs.Number.{byte_at}
use Rattle.refusal.specs.Fault.{fault}
use Rattle.refusal.specs.Answer.{refused}
use Rattle.anlz.specs.Sections.{sections}

-- for every file of 2^32 bytes and more
abbrev pub EveryLongFile : Type 0
EveryLongFile = (file : Bytes) → ((i : ℕ) → byte_at file i < 256) → 0x1_0000_0000 ≤ length file → sections file ≡ refused (fault 20 0)
