-- Rule 14.33: the relevant bytes of the grid (`grid_own`), of all cues (`cues_own`) and of a waveform (`wave_own`) stand in an envelope or in a
-- section of their own code.
use mathlib.Core.Path.{◌≡◌, refl}
use mathlib.Core.Bool.{Bool, true, false≢true, ◌||◌}
use mathlib.Core.List.{List, [], ◌∷◌}
use Rattle.std.specs.Prelude.{Option, None, Some}
use Prim.Native.Nat.{ℕ}
use lib.Dec.{eqb}
use Rattle.lists.specs.Alias.{Bytes}
use Rattle.lists.proofs.Choice.{on, never, or_left, or_more}
use Rattle.refusal.specs.Answer.{Answer, given, refused, and_then}
use Rattle.anlz.specs.declared.Section.{Section}
use Rattle.anlz.specs.Sections.{sections}
use Rattle.anlz.specs.First.{first_with, first_section}
use Rattle.anlz.specs.All.{all_with}
use Rattle.anlz.specs.Bytes.{envelope_byte, in_tag, in_tags}
use Rattle.anlz.proofs.SectionsAgree.{tag_among, tags_among}
use Rattle.beat_grid.specs.Grid.{pqtz, needed, grid_section}
use Rattle.grid_depend.specs.Bytes.{in_grid}
use Rattle.grid_depend.specs.Bytes as grid
use Rattle.cue_list.specs.CueList.{pcob}
use Rattle.cue_depend.specs.Bytes.{every_byte, every_list_byte, every_relevant}
use Rattle.waveform.specs.declared.Wave.{Wave}
use Rattle.waveform.specs.Sort.{sort_of, wave_code}
use Rattle.waveform.specs.Questions.{or_absent}
use Rattle.wave_depend.specs.Bytes.{asked_section, in_asked}
use Rattle.wave_depend.specs.Bytes as wave
use Rattle.anlz_depend.specs.Bytes.{any_byte, in_code, code_byte}

-- the first section with a code is one of those with it
first_own : (test : Bytes → ℕ → Bool) (file : Bytes) (i code : ℕ) (all : List Section) (section : Section) → first_with code all ≡ Some section
    → in_tag test file section i ≡ true → in_tags any_byte file (all_with code all) i ≡ true
unfolding first_with all_with in_tags
first_own test file i code [] section f e = never (cc f)
first_own test file i code (x ∷ rest) section f e =
    on (eqb x.code code)
    (λ h.
    let same : x ≡ section = cc (rw h at f) in
    rw h (or_left _ (tag_among test any_byte (λ tag j q. refl) file x i (rw same e))))
    (λ h. rw h (first_own test file i code rest section (rw h at f) e))

-- what stands in an envelope, or in a section with the code
envelope_or_own : (file : Bytes) (code i : ℕ) (other : Bool) → (other ≡ true → in_code code file (sections file) i ≡ true)
    → (envelope_byte file i || other) ≡ true → code_byte code file i ≡ true
unfolding code_byte
envelope_or_own file code i other own e = or_more (envelope_byte file i) own e

grid_in : (file : Bytes) (i : ℕ) (all : Answer (List Section)) (test : Bytes → ℕ → Bool)
    → in_grid test file (and_then (and_then all (λ (x : List Section). given (first_with pqtz x))) needed) i ≡ true → in_code pqtz file all i ≡ true
grid_in file i (refused f) test e = absurd (false≢true e)
grid_in file i (given all) test e = by (first_with pqtz all) refl e
  where
    by : (found : Option Section) → first_with pqtz all ≡ found → in_grid test file (needed found) i ≡ true → in_tags any_byte file (all_with pqtz all) i ≡ true
    by None f q = absurd (false≢true q)
    by (Some section) f q = first_own test file i pqtz all section f q

pub grid_own : (test : Bytes → ℕ → Bool) (file : Bytes) (i : ℕ) → grid.relevant test file i ≡ true → code_byte pqtz file i ≡ true
unfolding grid.relevant grid_section first_section
grid_own test file i = envelope_or_own file pqtz i _ (grid_in file i (sections file) test)

cues_in : (file : Bytes) (i : ℕ) (all : Answer (List Section)) → every_list_byte file all i ≡ true → in_code pcob file all i ≡ true
cues_in file i (refused f) e = absurd (false≢true e)
cues_in file i (given all) e = tags_among every_byte any_byte (λ tag j q. refl) file (all_with pcob all) i e

pub cues_own : (file : Bytes) (i : ℕ) → every_relevant file i ≡ true → code_byte pcob file i ≡ true
unfolding every_relevant
cues_own file i = envelope_or_own file pcob i _ (cues_in file i (sections file))

wave_in : (file : Bytes) (i number : ℕ) {w : Wave} (all : Answer (List Section)) → sort_of number ≡ Some w
    → in_asked file (and_then all (asked_section number)) i ≡ true → in_code (wave_code w) file all i ≡ true
wave_in file i number (refused f) k e = absurd (false≢true e)
wave_in file i number {w} (given all) k e = by (first_with (wave_code w) all) refl (rw k at e)
  where
    by : (found : Option Section) → first_with (wave_code w) all ≡ found → in_asked file (or_absent found) i ≡ true
        → in_tags any_byte file (all_with (wave_code w) all) i ≡ true
    by None f q = absurd (false≢true q)
    by (Some section) f q = first_own wave.width_and_number file i (wave_code w) all section f q

pub wave_own : (number : ℕ) {w : Wave} (file : Bytes) (i : ℕ) → sort_of number ≡ Some w → wave.relevant number file i ≡ true
    → code_byte (wave_code w) file i ≡ true
unfolding wave.relevant
wave_own number {w} file i k = envelope_or_own file (wave_code w) i _ (wave_in file i number (sections file) k)
