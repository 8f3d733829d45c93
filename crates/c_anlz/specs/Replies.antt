-- Rules 13.3 and 13.4: the code and the values of each answer about an ANLZ file that is not refused.
use Rattle.std.specs.Prelude.{List, [], ◌∷◌, ℕ}
use Rattle.beat_grid.specs.declared.GridBeat.{GridBeat}
use Rattle.cue_list.specs.declared.Cue.{Cue}
use Rattle.cue_list.specs.declared.CueListType.{CueListType}
use Rattle.cue_list.specs.declared.CueListType.TheVariants.{Memory, Hot}
use Rattle.cue_list.specs.declared.CuePosition.{CuePosition}
use Rattle.cue_list.specs.declared.CuePosition.TheVariants.{Point, Loop}
use Rattle.waveform.specs.declared.WaveEntry.{WaveEntry}
use Rattle.c_reply.specs.Code.{done}
use Rattle.c_reply.specs.Reply.{Reply, reply}

abbrev pub beats_reply : ℕ → Reply
beats_reply n = reply done (n ∷ [])

abbrev pub beat_reply : GridBeat → Reply
beat_reply beat = reply done (beat.bar_position ∷ beat.tempo ∷ beat.time ∷ [])

-- the number of a list's type (rule 14.20)
abbrev pub list_number : CueListType → ℕ
list_number Memory = 0
list_number Hot = 1

-- kind and times (rule 14.22)
abbrev pub position_values : CuePosition → List ℕ
position_values (Point time) = 1 ∷ time ∷ []
position_values (Loop time loop_time) = 2 ∷ time ∷ loop_time ∷ []

abbrev pub cue_reply : Cue → Reply
cue_reply cue = reply done (list_number cue.list ∷ cue.hot_cue ∷ position_values cue.position)

abbrev pub wave_reply : WaveEntry → Reply
wave_reply entry = reply done (entry.place ∷ entry.width ∷ [])
