-- Rule 14.22: an entry of a cue list, its fields in file order under the published names, when it holds, and the cue that it is.
use Rattle.std.specs.Prelude.{Bool, ◌&&◌, ◌||◌, cond, ℕ, eqb}
use Rattle.lists.specs.Alias.{Bytes}
use Rattle.number.specs.Number.{byte_at, be32}
use Rattle.anlz.specs.Header.{four_bytes}
use Rattle.cue_list.specs.declared.CueListType.{CueListType}
use Rattle.cue_list.specs.declared.CuePosition.{CuePosition}
use Rattle.cue_list.specs.declared.CuePosition.TheVariants.{Point, Loop}
use Rattle.cue_list.specs.declared.Cue.{Cue}

-- bytes of an entry
abbrev pub cue_size : ℕ
cue_size = 0x38

-- P, C, P, T
abbrev pub pcpt : ℕ
pcpt = four_bytes 0x50 0x43 0x50 0x54

abbrev pub cue_code : (entry : Bytes) → ℕ
cue_code entry = be32 entry 0x00

abbrev pub len_entry : (entry : Bytes) → ℕ
len_entry entry = be32 entry 0x08

-- 0 in a list of memory cues, as published; not judged
abbrev pub hot_cue : (entry : Bytes) → ℕ
hot_cue entry = be32 entry 0x0c

-- published as type
abbrev pub kind : (entry : Bytes) → ℕ
kind entry = byte_at entry 0x1c

-- milliseconds
abbrev pub time : (entry : Bytes) → ℕ
time entry = be32 entry 0x20

-- milliseconds, in a loop
abbrev pub loop_time : (entry : Bytes) → ℕ
loop_time entry = be32 entry 0x24

abbrev pub is_point : (entry : Bytes) → Bool
is_point entry = eqb (kind entry) 1

abbrev pub is_loop : (entry : Bytes) → Bool
is_loop entry = eqb (kind entry) 2

-- is true exactly when the code is PCPT, the length is `38`, and the kind is that of a point or a loop
unfoldable pub cue_holds : (entry : Bytes) → Bool
cue_holds entry = eqb (cue_code entry) pcpt && (eqb (len_entry entry) cue_size && (is_point entry || is_loop entry))

-- of an entry that holds: what is no point is a loop
unfoldable pub position_of : (entry : Bytes) → CuePosition
position_of entry = cond (is_point entry) (Point (time entry)) (Loop (time entry) (loop_time entry))

abbrev pub cue_of : (list : CueListType) (entry : Bytes) → Cue
cue_of list entry = record { list = list; hot_cue = hot_cue entry; position = position_of entry }
