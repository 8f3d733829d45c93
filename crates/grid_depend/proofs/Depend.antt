-- The theorem of specs/Depend: rules 14.17 and 14.18 from what tags and files decide (TagAgree, GridAgree), rule 14.19 from these.
use Prim.Native.Nat.{ℕ}
use Rattle.lists.specs.Alias.{Bytes}
use Rattle.number.specs.Agree.{DecidedBy}
use Rattle.number.proofs.NumberAgree.{agree_less}
use Rattle.anlz.specs.Element.{element_at}
use Rattle.beat_grid.specs.Questions.{counted, ask_beats, ask_beat}
use Rattle.grid_depend.specs.Bytes.{count_byte, beat_byte, relevant}
use Rattle.grid_depend.specs.Depend.{EveryGrid}
use Rattle.grid_depend.proofs.TagAgree.{count_agree, beat_agree}
use Rattle.grid_depend.proofs.GridAgree.{grid_agree}
use Rattle.grid_depend.proofs.WiderBytes.{count_among, beat_among}

count_decided : (file : Bytes) → DecidedBy (relevant count_byte file) ask_beats file
unfolding ask_beats
count_decided = grid_agree count_byte counted (λ tag other a. count_agree a)

beat_decided : (k : ℕ) (file : Bytes) → DecidedBy (relevant (beat_byte k) file) (λ (other : Bytes). ask_beat other k) file
unfolding ask_beat
beat_decided k = grid_agree (beat_byte k) (element_at k) (λ tag other a. beat_agree k a)

pub grid_depends : EveryGrid
grid_depends file =
    record {
      count = count_decided file;
      beat = λ k. beat_decided k file;
      both = λ other a. (
        count_decided file other (agree_less (count_among file) a),
        λ k. beat_decided k file other (agree_less (beat_among k file) a),
      );
    }
