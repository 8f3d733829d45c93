-- The theorem of specs/Depend: rule 14.30 from what files decide (CueAgree), rule 14.31 from it.
use Rattle.number.proofs.NumberAgree.{agree_less}
use Rattle.cue_depend.specs.Depend.{EveryCue}
use Rattle.cue_depend.proofs.CueAgree.{cue_decided}
use Rattle.cue_depend.proofs.WiderBytes.{cue_among}

pub cue_depends : EveryCue
cue_depends file =
    record {
      cue = λ k. cue_decided k file;
      every = λ other a k. cue_decided k file other (agree_less (cue_among k file) a);
    }
