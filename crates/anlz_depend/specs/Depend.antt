-- Rule 14.33 as one theorem (`EveryOwn`): answers about beats, about cues and about a sort of waveform depend on the envelopes and on sections
-- of their own code. Rests on the bytes of these (specs/Bytes).
use Rattle.std.specs.Prelude.{◌≡◌, ℕ}
use Rattle.std.specs.Prelude.{Some}
use Rattle.lists.specs.Alias.{Bytes}
use Rattle.number.specs.Agree.{Agree}
use Rattle.beat_grid.specs.Grid.{pqtz}
use Rattle.beat_grid.specs.Questions.{ask_beats, ask_beat}
use Rattle.cue_list.specs.CueList.{pcob}
use Rattle.cue_list.specs.Questions.{ask_cue}
use Rattle.waveform.specs.declared.Wave.{Wave}
use Rattle.waveform.specs.Sort.{sort_of, wave_code}
use Rattle.waveform.specs.Questions.{ask_wave}
use Rattle.anlz_depend.specs.Bytes.{code_byte}

pub record OwnSections (file other : Bytes) : Type 0 where
  pub beats : Agree (code_byte pqtz file) file other → (ask_beats file ≡ ask_beats other) × ((k : ℕ) → ask_beat file k ≡ ask_beat other k)
  pub cues : Agree (code_byte pcob file) file other → (k : ℕ) → ask_cue file k ≡ ask_cue other k
  pub waves : (wave : Wave) (number : ℕ) → sort_of number ≡ Some wave → Agree (code_byte (wave_code wave) file) file other
      → (k : ℕ) → ask_wave file number k ≡ ask_wave other number k

-- for every two files
abbrev pub EveryOwn : Type 0
EveryOwn = (file other : Bytes) → OwnSections file other
