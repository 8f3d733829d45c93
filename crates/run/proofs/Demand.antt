-- The demand on runs (specs/Demand), for every run: one term; and its corollaries for reading from a list (specs/FromList), for fetching (specs/Fetch) and for answers in full (specs/Final).
-- Rests on what holds at the end of a run (proofs/RunHolds, proofs/CallsAppend, proofs/PacketCalls), on the questions over the blocks held (export: Questions),
-- and on proofs/HeldBlocks and proofs/AnswersKept.
use mathlib.Core.Path.{◌≡◌, sym, ap, ◌∙◌}
use mathlib.Core.List.{List, ◌++◌}
use mathlib.Core.Option.{some}
use Prim.Native.Nat.{ℕ}
use Rattle.lists.specs.Alias.{Bytes}
use Rattle.bitmap.specs.Count.{held_count}
use Rattle.intake.specs.Sound.{Sound}
use Rattle.intake.specs.Memory.{Memory}
use Rattle.intake.specs.Open.{Opening}
use Rattle.run.specs.Received.{Received, nothing, receive_each}
use Rattle.run.specs.Holds.{Holds}
use Rattle.run.specs.Call.{Question, all_rows, one_record, one_text, Packet, Call, deliver, deliver_packet, ask, deliveries_of, rows, row, text, answer, reply}
use Rattle.run.specs.Run.{after_opening, run_memory, run_received}
use Rattle.run.specs.Packet.{one_by_one, TakesPacket}
use Rattle.run.specs.Demand.{Demand, EveryRun}
use Rattle.run.specs.FromList.{EveryRunKeepsLists}
use Rattle.run.specs.Fetch.{Fetches, EveryRunFetches}
use Rattle.run.specs.Final.{EveryRunKeepsFull}
use Rattle.intake.proofs.RulesPassed.{Accepted}
use Rattle.intake.proofs.OpenClears.{opens, opening_accepted}
use Rattle.table_walk.proofs.SameBlocks.{SameBlocks, MoreBlocks}
use Rattle.export.proofs.Questions.{ask_rows_same, ask_record_same, ask_text_same}
use Rattle.run.proofs.HoldsKept.{holds_sound}
use Rattle.run.proofs.RunHolds.{run_holds, run_sound, run_alike}
use Rattle.run.proofs.CallsAppend.{received_append, received_last, calls_append, calls_last, calls_keep}
use Rattle.run.proofs.PacketCalls.{after-each, receive-each, packet_memory, packet_results, packet_count, packet_fault}
use Rattle.run.proofs.FileMemory.{received_sound, whole_sound, order_whole}
use Rattle.run.proofs.HeldBlocks.{holds_sized, same_received, same_whole, holds_more}
use Rattle.run.proofs.AnswersKept.{keeps, keeps_final}
use Rattle.run.proofs.ListKept.{lists_kept}
use Rattle.run.proofs.Fetch.{fetches, fetched_kept}

-- each question, where the same blocks are held
pub answer_same : {len : ℕ} {a b : Memory} → Sound len a → Sound len b
    → SameBlocks len a b → (q : Question) → answer len a q ≡ answer len b q
answer_same sound_a sound_b same (all_rows table list) = ap rows (ask_rows_same sound_a sound_b same table list)
answer_same sound_a sound_b same (one_record table k) = ap row (ask_record_same sound_a sound_b same table k)
answer_same sound_a sound_b same (one_text table k slot) = ap text (ask_text_same sound_a sound_b same table k slot)

-- what was received stays received
received_later : (len : ℕ) (calls later : List Call) (b : ℕ) (piece : Bytes) → run_received len calls b ≡ some piece
    → run_received len (calls ++ later) b ≡ some piece
received_later len calls later b piece e =
    ap (λ (r : Received). r b) (received_append len calls later nothing) ∙ calls_keep len later (run_received len calls) b piece e

module _ (len : ℕ) (before : Memory) (passed : Accepted len before.image before.map) (calls : List Call) where
  at_end : Holds len before (run_received len calls) (run_memory len before calls)
  at_end = run_holds len before passed calls

  still_sound : (more : List Call) → Sound len (run_memory len before more)
  still_sound more = run_sound len before passed more

  pub more_later : (later : List Call) → MoreBlocks len (run_memory len before calls) (run_memory len before (calls ++ later))
  more_later later =
      holds_more at_end (received_later len calls later) (run_holds len before passed (calls ++ later))

  takes : (p : Packet) → TakesPacket len before calls p
  takes p =
      let m = run_memory len before calls in
      let all = deliveries_of (deliver_packet p) in
      record {
        taken = calls_last len calls (deliver_packet p) (after_opening len before);
        memory = calls_last len calls (deliver_packet p) (after_opening len before) ∙ packet_memory len m (still_sound calls) p
            ∙ sym (calls_append len calls (one_by_one all) (after_opening len before) ∙ after-each len all m);
        received = received_last len calls (deliver_packet p) nothing
            ∙ sym (received_append len calls (one_by_one all) nothing ∙ receive-each len all (run_received len calls));
        results = packet_results len m (still_sound calls) p;
        count = λ e.
            packet_count len m (still_sound calls) p e
            ∙ ap (λ (n : Memory). held_count len n.map) (sym (calls_last len calls (deliver_packet p) (after_opening len before)));
        refusal = packet_fault len m (still_sound calls) p;
      }

  at_every_end : Demand len before calls
  unfolding receive_each
  at_every_end =
      record {
        opens = ap (λ (o : Opening). o.answer) (opens len before.image before.map passed);
        holds = at_end;
        delivers = λ d. (calls_last len calls (deliver d) (after_opening len before), received_last len calls (deliver d) nothing);
        packets = takes;
        asks = λ q. (calls_last len calls (ask q) (after_opening len before), received_last len calls (ask q) nothing);
        answers = let sound = received_sound len passed.allowed (run_received len calls) (holds_sized at_end passed) in
            answer_same (still_sound calls) sound (same_received at_end passed);
        alike = λ others same.
            let end = run_alike len before passed calls others same in
            record {
              image = ap (λ (m : Memory). m.image) end;
              map = ap (λ (m : Memory). m.map) end;
              count = ap (λ (m : Memory). held_count len m.map) end;
            };
        replies = λ others same call. ap (λ (m : Memory). reply len m call) (run_alike len before passed calls others same);
        keeps = λ later. keeps (still_sound calls) (still_sound (calls ++ later)) (more_later later);
        ordered = order_whole len passed.allowed (run_received len calls) (holds_sized at_end passed);
        whole = λ file w. answer_same (still_sound calls) (whole_sound len passed.allowed file w.long) (same_whole at_end file w);
      }

pub demand : EveryRun
demand len before e = at_every_end len before (opening_accepted len before.image before.map e)

-- Rule 8.15, a corollary: by what the run holds at both places
pub list_keeps : EveryRunKeepsLists
list_keeps len before e calls later =
    let passed = opening_accepted len before.image before.map e in
    let earlier = (demand len before e calls).holds in
    let at_later = (demand len before e (calls ++ later)).holds in
    lists_kept (holds_sound passed earlier) (holds_sound passed at_later) (holds_more earlier (received_later len calls later) at_later)

-- Rules 8.19 to 8.21, a corollary in the same way
pub run_fetches : EveryRunFetches
run_fetches len before e calls = (at calls, λ later. fetched_kept (received_later len calls later) (at calls) (at (calls ++ later)))
  where
    at : (all : List Call) → Fetches len (run_received len all) (run_memory len before all)
    at all =
        let holds = (demand len before e all).holds in
        fetches (holds_sound (opening_accepted len before.image before.map e) holds) holds

-- Rule 8.22, a corollary in the same way
pub full_keeps : EveryRunKeepsFull
full_keeps len before e calls later =
    let passed = opening_accepted len before.image before.map e in
    let earlier = (demand len before e calls).holds in
    let at_later = (demand len before e (calls ++ later)).holds in
    keeps_final (holds_sound passed earlier) (holds_sound passed at_later) (holds_more earlier (received_later len calls later) at_later)
