-- Rule 7.14 as one theorem about reading from a list (`EveryReading`), beside that about the three questions (specs/Depend).
use Rattle.std.specs.Prelude.{◌≡◌, ℕ}
use Rattle.lists.specs.Alias.{Bytes, Words}
use Rattle.intake.specs.Memory.{memory}
use Rattle.intake.specs.InUse.{SameInUse}
use Rattle.run.specs.Call.{CallReply}
use Rattle.depend.specs.Unread.{held_byte}
use Rattle.number.specs.Agree.{DecidedBy}
use Rattle.depend.specs.ListBytes.{Reading, read_answer, read_relevant}

abbrev pub read_on : (len : ℕ) (map : Words) (r : Reading) (image : Bytes) → CallReply
read_on len map r image = read_answer len (memory image map) r

pub record ReadingDependence (len : ℕ) (map : Words) (r : Reading) (image : Bytes) : Type 0 where
  -- Rules 7.12 and 7.14
  pub those : DecidedBy (read_relevant len (memory image map) r) (read_on len map r) image
  -- Rule 7.9
  pub held : DecidedBy (held_byte len map) (read_on len map r) image
  -- Rule 7.11
  pub in_use : (other : Bytes) (words : Words) → SameInUse len (memory image map) (memory other words) → read_on len map r image ≡ read_on len words r other

-- for every length, map, list and image
abbrev pub EveryReading : Type 0
EveryReading = (len : ℕ) (map : Words) (r : Reading) (image : Bytes) → ReadingDependence len map r image
