-- Rules 14.30 and 14.31 as one theorem about the question (`EveryCue`): what an answer about a cue may depend on.
-- Rests on the relevant bytes (specs/Bytes).
use Rattle.std.specs.Prelude.{◌≡◌, ℕ}
use Rattle.lists.specs.Alias.{Bytes}
use Rattle.number.specs.Agree.{Agree, DecidedBy}
use Rattle.cue_list.specs.Questions.{ask_cue}
use Rattle.cue_depend.specs.Bytes.{relevant, every_relevant}

pub record CueDependence (file : Bytes) : Type 0 where
  -- Rule 14.30
  pub cue : (k : ℕ) → DecidedBy (relevant k file) (λ (other : Bytes). ask_cue other k) file
  -- Rule 14.31
  pub every : (other : Bytes) → Agree (every_relevant file) file other → (k : ℕ) → ask_cue file k ≡ ask_cue other k

-- for every file
abbrev pub EveryCue : Type 0
EveryCue = (file : Bytes) → CueDependence file
