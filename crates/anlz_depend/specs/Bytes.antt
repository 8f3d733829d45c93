-- Rule 14.33: the bytes of an ANLZ file that stand in an envelope or in a section with a code.
use Rattle.std.specs.Prelude.{Bool, true, false, ◌||◌, List, ℕ}
use Rattle.lists.specs.Alias.{Bytes}
use Rattle.refusal.specs.Answer.{Answer, given, refused}
use Rattle.anlz.specs.declared.Section.{Section}
use Rattle.anlz.specs.Sections.{sections}
use Rattle.anlz.specs.All.{all_with}
use Rattle.anlz.specs.Bytes.{envelope_byte, in_tags}

-- every byte of a tag
abbrev pub any_byte : (tag : Bytes) (i : ℕ) → Bool
any_byte tag i = true

-- byte i of the file stands in one of these sections that has the code
abbrev pub in_code : (code : ℕ) (file : Bytes) (all : Answer (List Section)) (i : ℕ) → Bool
in_code code file (given all) i = in_tags any_byte file (all_with code all) i
in_code code file (refused f) i = false

-- byte i stands in an envelope, or in a section with the code
unfoldable pub code_byte : (code : ℕ) (file : Bytes) (i : ℕ) → Bool
code_byte code file i = envelope_byte file i || in_code code file (sections file) i
