-- The theorem of specs/Depend, from the theorems about the grid, the cues and the waveforms, and from where their relevant bytes stand
-- (OwnBytes).
use Rattle.number.proofs.NumberAgree.{agree_less}
use Rattle.grid_depend.specs.Bytes.{both_byte}
use Rattle.grid_depend.proofs.Depend.{grid_depends}
use Rattle.cue_depend.proofs.Depend.{cue_depends}
use Rattle.wave_depend.proofs.Depend.{wave_depends}
use Rattle.anlz_depend.specs.Depend.{EveryOwn}
use Rattle.anlz_depend.proofs.OwnBytes.{grid_own, cues_own, wave_own}

pub own_sections : EveryOwn
own_sections file other =
    record {
      beats = λ a. (grid_depends file).both other (agree_less (grid_own both_byte file) a);
      cues = λ a. (cue_depends file).every other (agree_less (cues_own file) a);
      waves = λ wave number known a k. wave_depends file number k other (agree_less (λ i e. wave_own number file i known e) a);
    }
