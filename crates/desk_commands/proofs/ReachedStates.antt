-- Rules 9.5 and 9.9: which states commands lead to (specs/Run): none keeps the state, and one run goes on where another ended.
use mathlib.Core.Path.{◌≡◌, refl, ◌∙◌}
use mathlib.Core.List.{List, [], ◌∷◌, ◌++◌}
use Rattle.std.proofs.Common.{Result, Ok, Err, OnErr}
use Rattle.lists.specs.Alias.{Bytes, Words, Places}
use Rattle.desk_steps.specs.State.{State}
use Rattle.desk_commands.specs.Run.{CommandBytes, after_bytes, after_all, Reached}
use Rattle.desk_commands.specs.Private.{LeftAfter, Left}

pub none_reached : (s : State) → Reached s s
unfolding after_all
none_reached s = record { commands = []; reached = refl }

pub one_reached : {s after : State} (bytes : CommandBytes) → after ≡ after_bytes s bytes → Reached s after
unfolding after_all
one_reached bytes e = record { commands = bytes ∷ []; reached = rw e }

after_both : (s : State) (first later : List CommandBytes) → after_all s (first ++ later) ≡ after_all (after_all s first) later
unfolding after_all
after_both s [] later = refl
after_both s (bytes ∷ first) later = after_both (after_bytes s bytes) first later

pub both_reached : {s between after : State} → Reached s between → Reached between after → Reached s after
both_reached {s} r q = record {
  commands = r.commands ++ q.commands;
  reached = after_both s r.commands q.commands ∙ rw r.reached q.reached;
}

-- what a turn leaves that ends in an error: no command is run, or one is
pub none_left : {A E : Type 0} (s : State) (r : Result A E) → OnErr r (Left s s.image s.map s.list)
none_left s (Ok _) = tt
none_left s (Err _) = record { len = s.len; reached = none_reached s }

pub one_left : {s : State} {bytes : CommandBytes} {image : Bytes} {map : Words} {list : Places} → LeftAfter s bytes image map list → Left s image map list
one_left {bytes = bytes} l = record { len = l.len; reached = one_reached bytes l.is }
