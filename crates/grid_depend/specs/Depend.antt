-- Rules 14.17 to 14.19 as one theorem about the two questions (`EveryGrid`): what an answer about a beat grid may depend on.
-- Rests on the relevant bytes (specs/Bytes).
use Rattle.std.specs.Prelude.{◌≡◌, ℕ}
use Rattle.lists.specs.Alias.{Bytes}
use Rattle.number.specs.Agree.{Agree, DecidedBy}
use Rattle.beat_grid.specs.Questions.{ask_beats, ask_beat}
use Rattle.grid_depend.specs.Bytes.{count_byte, beat_byte, both_byte, relevant}

pub record GridDependence (file : Bytes) : Type 0 where
  -- Rule 14.17
  pub count : DecidedBy (relevant count_byte file) ask_beats file
  -- Rule 14.18
  pub beat : (k : ℕ) → DecidedBy (relevant (beat_byte k) file) (λ (other : Bytes). ask_beat other k) file
  -- Rule 14.19
  pub both : (other : Bytes) → Agree (relevant both_byte file) file other
      → (ask_beats file ≡ ask_beats other) × ((k : ℕ) → ask_beat file k ≡ ask_beat other k)

-- for every file
abbrev pub EveryGrid : Type 0
EveryGrid = (file : Bytes) → GridDependence file
