-- Rule 14.32 as one theorem (`EveryWave`): what an answer about a waveform's entry may depend on. The relevant bytes (specs/Bytes) are the
-- same for every k; of the section asked for they stand before its entries.
use Rattle.std.specs.Prelude.{ℕ}
use Rattle.lists.specs.Alias.{Bytes}
use Rattle.number.specs.Agree.{DecidedBy}
use Rattle.waveform.specs.Questions.{ask_wave}
use Rattle.wave_depend.specs.Bytes.{relevant}

-- for every file, number of a sort and k
abbrev pub EveryWave : Type 0
EveryWave = (file : Bytes) (number k : ℕ) → DecidedBy (relevant number file) (λ (other : Bytes). ask_wave other number k) file
