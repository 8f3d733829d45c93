-- Rules 1.5 and 9.7: what the desk program keeps between two commands, as a plain value.
use Rattle.std.specs.Prelude.{ℕ}
use Rattle.lists.specs.Alias.{Bytes, Words, Places}

-- the length in the intake's record, and the three buffers
pub record State : Type 0 where
  pub len : ℕ
  pub image : Bytes
  pub map : Words
  pub list : Places

abbrev pub state : (len : ℕ) (image : Bytes) (map : Words) (list : Places) → State
state len image map list = record { len = len; image = image; map = map; list = list }
