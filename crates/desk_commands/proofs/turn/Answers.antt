-- `desk_commands::turn` meets its contract: it runs one command or none (proofs/ReachedStates), that of known bytes (proofs/KnownInput).
use Rattle.std.proofs.lemmas.Result.{IfOk-weaker, on_err_weaker}
use Rattle.desk_commands.proofs.ReachedStates.{none_reached, one_reached, none_left, one_left}
use Rattle.std.proofs.Common.{arith}
use Rattle.desk_commands.proofs.BodySizes.{body_size_most}
use Rattle.desk_commands.proofs.KnownInput.{turn_ends, turn_follows, ok_both, one_byte}
use Rattle.desk_commands.proofs.turn.Goals as goal

pub returns-in_err-read_full-clause-err : goal.returns-in_err-read_full-clause-err
returns-in_err-read_full-clause-err g c = none_left _ _

pub returns-then-branch-lt1-clause-ok : goal.returns-then-branch-lt1-clause-ok
returns-then-branch-lt1-clause-ok g c = none_reached _

pub read_body-requires : goal.read_body-requires
read_body-requires g c = body_size_most _

pub returns-in_err-count-clause-err : goal.returns-in_err-count-clause-err
returns-in_err-count-clause-err g c = none_left _ _

pub returns-clause-ok : goal.returns-clause-ok
returns-clause-ok g c = IfOk-weaker c.answer.result _ _ (λ after. one_reached _) c.answer.ensures.ok

pub returns-clause-err : goal.returns-clause-err
returns-clause-err g c = on_err_weaker c.answer.result one_left c.answer.ensures.err

pub returns-then-branch-lt1-clause-read : goal.returns-then-branch-lt1-clause-read
returns-then-branch-lt1-clause-read g c =
    let first = c.in_ok-read_full.ensures.bytes in
    turn_ends _ _ _ _ _ c.if-branch-lt1.true first.0 (first.1 (omega (arith, c.if-branch-lt1.true, c.read_full.auto.buf)))

pub returns-clause-read : goal.returns-clause-read
returns-clause-read g c =
    let first = c.in_ok-read_full.ensures.bytes in
    let second = c.in_ok-count.ensures.bytes in
    let long = c.in_ok-count.ensures.bound.1 in
    let few = c.in_ok-count.ensures.few in
    ok_both c.answer.result _ _ _ c.answer.ensures.ok c.answer.ensures.next
    (λ after e f.
    turn_follows _ _ after _ _ e _ _ _ _ (one_byte _ c.read_full.new.buf (omega (arith, c.read_full.auto.buf)) (omega (arith, c.if-branch-lt1.false)))
    first.0 second.0 (omega (arith, long, few)) (λ l. second.1 (omega (arith, long, l))) f)
