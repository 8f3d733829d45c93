-- Rule 9.16 (specs/Packets): packets near their edges.
-- Rests on the packet past refusals 1 to 4 (intake: PacketFold) and on each verdict from its case (intake: Verdict).
use mathlib.Core.Path.{◌≡◌, refl, ap, ◌∙◌}
use mathlib.Core.Bool.{true, false, cond}
use mathlib.Core.List.{List, [], ◌∷◌, ◌++◌}
use Prim.Native.Nat.{ℕ, suc, ◌*◌, ◌<◌, ◌≤◌}
use native.Mathlib.Omega.{arith}
use lib.ListN.{length, take, drop, get_or, length-append, length-drop, get_or-append}
use lib.Seq.{take_at, drop_at, take_all, length-take-le}
use lib.Dec.{eqb, ltb, leb}
use borrow.Author.Tests.{ltb-true, ltb-false, lt-ltb, le-ltb, eq-eqb, ne_eqb, eqb-true, eqb-false, leb-true, leb-false}
use Rattle.lists.specs.Member.{is_member}
use Rattle.lists.proofs.Choice.{on, never}
use Rattle.lists.proofs.Each.{Each, each_at}
use Rattle.lists.proofs.Sets.{written_front}
use Rattle.format.specs.Size.{block_size}
use Rattle.refusal.specs.Answer.{given, refused}
use Rattle.refusal.specs.Fault.{fault}
use Rattle.bitmap.specs.Words.{block_count}
use Rattle.bitmap.specs.Bit.{bit}
use Rattle.bitmap.specs.Count.{held_count}
use Rattle.intake.specs.Sound.{Sound}
use Rattle.intake.specs.Memory.{Memory, block_at}
use Rattle.intake.specs.Added.{Added}
use Rattle.intake.specs.Equal.{equal}
use Rattle.intake.specs.Deliver.{delivery}
use Rattle.intake.specs.Packet.{paired, check_sizes, deliveries_in, after_each, result_of, results_of_each, PacketOutcome, packet_outcome, settled_packet, packet}
use Rattle.intake.proofs.Verdict.{number_refused, bytes_refused, is_same, is_new}
use Rattle.intake.proofs.NewAdds.{stored_added}
use Rattle.intake.proofs.PacketFold.{packet_settled, sound_kept}
use Rattle.edges.specs.Packets.{EveryPacket}

module _ (len : ℕ) (m : Memory) (passes : Sound len m) where
  settles : (blocks pieces list : List ℕ) → packet len m blocks pieces list ≡ settled_packet len m list (deliveries_in blocks pieces list)
  settles blocks pieces list = packet_settled len m blocks pieces list passes

  wrong_size : (blocks pieces list : List ℕ) → (length pieces ≡ length blocks * block_size → ⊥)
      → packet len m blocks pieces list ≡ packet_outcome (refused (fault 6 0)) m list
  unfolding check_sizes
  wrong_size blocks pieces list h = settles blocks pieces list ∙ rw (ne_eqb (length pieces) (length blocks * block_size) h)

  module _ (blocks pieces list : List ℕ) (sized : length pieces ≡ length blocks * block_size) where
    short_list : length list < length blocks → packet len m blocks pieces list ≡ packet_outcome (refused (fault 17 (length blocks))) m list
    unfolding check_sizes
    short_list h =
        settles blocks pieces list ∙ rw (eq-eqb (length pieces) (length blocks * block_size) sized, lt-ltb (length list) (length blocks) h)

    taken : length blocks ≤ length list → packet len m blocks pieces list ≡ settled_packet len m list (given (paired blocks pieces))
    unfolding check_sizes
    taken h =
        settles blocks pieces list ∙ rw (eq-eqb (length pieces) (length blocks * block_size) sized, le-ltb (length list) (length blocks) h)

  empty_packet : (list : List ℕ) → packet len m [] [] list ≡ packet_outcome (given (held_count len m.map)) m list
  unfolding paired after_each results_of_each
  empty_packet list = taken [] [] list refl (omega arith)

  one_block : (block : ℕ) (piece : List ℕ) (first : ℕ) (rest : List ℕ) → length piece ≡ block_size
      → packet len m (block ∷ []) piece (first ∷ rest)
      ≡ packet_outcome (given (held_count len (delivery len m block piece).memory.map)) (delivery len m block piece).memory
      (result_of (delivery len m block piece).answer ∷ rest)
  unfolding paired after_each results_of_each
  one_block block piece first rest sized =
      let all = take_all block_size piece (omega arith) in
      taken (block ∷ []) piece (first ∷ rest) (omega arith) (omega arith) ∙ rw all

  -- the answer to a delivery of 512 bytes, as a number
  module _ (block : ℕ) (piece : List ℕ) (sized : length piece ≡ block_size) where
    number_past : block_count len ≤ block → result_of (delivery len m block piece).answer ≡ 5
    unfolding delivery
    number_past h = rw (number_refused len m block piece passes h)

    module _ (inside : block < block_count len) where
      number_new : bit m.map block ≡ false → result_of (delivery len m block piece).answer ≡ 0
      unfolding delivery
      number_new b = rw (is_new len m block piece passes inside sized b)

      number_held : bit m.map block ≡ true → result_of (delivery len m block piece).answer ≡ cond (equal (block_at m.image block) piece) 64 7
      unfolding delivery
      number_held b =
          on (equal (block_at m.image block) piece)
          (λ e. rw (is_same len m block piece passes inside sized b e, e))
          (λ e. rw (bytes_refused len m block piece passes inside sized b e, e))

    one_of_four : is_member (result_of (delivery len m block piece).answer) (0 ∷ 64 ∷ 5 ∷ 7 ∷ []) ≡ true
    unfolding is_member
    one_of_four =
        on (leb (block_count len) block)
        (λ l. rw (number_past (leb-true (block_count len) block l)))
        (λ l. let inside = leb-false (block_count len) block l in
        on (bit m.map block)
        (λ b. rw (number_held inside b) (on (equal (block_at m.image block) piece) (λ e. rw e) (λ e. rw e)))
        (λ b. rw (number_new inside b)))

new_adds : (len : ℕ) (m : Memory) (block : ℕ) (piece : List ℕ) → Sound len m → block < block_count len → length piece ≡ block_size → bit m.map block ≡ false
    → Added len m block piece (delivery len m block piece).memory
unfolding delivery
new_adds len m block piece passes inside sized absent =
    rw (is_new len m block piece passes inside sized absent)
    (stored_added len m block piece (record { sound = passes; inside = inside; sized = sized }) absent)

two_blocks : (len : ℕ) (m : Memory) (passes : Sound len m) (block : ℕ) (piece other : List ℕ) (first second : ℕ) (rest : List ℕ) → block < block_count len
    → bit m.map block ≡ false → length piece ≡ block_size → length other ≡ block_size
    → (packet len m (block ∷ block ∷ []) (piece ++ other) (first ∷ second ∷ rest)).results ≡ 0 ∷ cond (equal piece other) 64 7 ∷ rest
unfolding paired results_of_each
two_blocks len m passes block piece other first second rest inside absent sized sized_other =
    let after = (delivery len m block piece).memory in
    let long : length (piece ++ other) ≡ 2 * block_size = simp length-append (omega arith) in
    let front = take_at piece other block_size sized in
    let back = drop_at piece other block_size sized in
    let all = take_all block_size other (omega arith) in
    let added = new_adds len m block piece passes inside sized absent in
    let again = number_held len after (sound_kept len m block piece passes).sound block other sized_other inside added.bit_set in
    ap (λ (o : PacketOutcome). o.results) (taken len m passes (block ∷ block ∷ []) (piece ++ other) (first ∷ second ∷ rest) (omega arith) (omega arith))
    ∙ rw (front, back, all, number_new len m passes block piece sized inside absent, again, added.bytes)

abbrev Number : ℕ → Type 0
Number n = is_member n (0 ∷ 64 ∷ 5 ∷ 7 ∷ []) ≡ true

each_number : (len : ℕ) (m : Memory) (passes : Sound len m) (blocks pieces : List ℕ) → length pieces ≡ length blocks * block_size
    → Each Number (results_of_each len m (paired blocks pieces))
unfolding paired results_of_each
each_number len m passes [] pieces sized = tt
each_number len m passes (block ∷ blocks) pieces sized =
    let piece = take block_size pieces in
    let front : length piece ≡ block_size = length-take-le block_size pieces (omega arith) in
    let left : length (drop block_size pieces) ≡ length blocks * block_size = simp length-drop (omega arith) in (
      one_of_four len m passes block piece front,
      each_number len (delivery len m block piece).memory (sound_kept len m block piece passes).sound blocks (drop block_size pieces) left,
    )

results_length : (len : ℕ) (m : Memory) (blocks pieces : List ℕ) → length (results_of_each len m (paired blocks pieces)) ≡ length blocks
unfolding paired results_of_each
results_length len m [] pieces = refl
results_length len m (block ∷ blocks) pieces =
    ap (λ (n : ℕ). suc n) (results_length len (delivery len m block (take block_size pieces)).memory blocks (drop block_size pieces))

result_numbers : (len : ℕ) (m : Memory) (passes : Sound len m) (blocks pieces list : List ℕ) {held : ℕ} → (packet len m blocks pieces list).answer ≡ given held
    → (i : ℕ) → i < length blocks → Number (get_or (packet len m blocks pieces list).results i 0)
result_numbers len m passes blocks pieces list {held} e i h =
    on (eqb (length pieces) (length blocks * block_size))
    (λ s. on (ltb (length list) (length blocks))
    (λ l. let other = short_list len m passes blocks pieces list (eqb-true _ _ s) (ltb-true _ _ l) in
    never (cc (ap (λ (o : PacketOutcome). o.answer) other)))
    (λ l. written_number (eqb-true _ _ s) (ltb-false _ _ l)))
    (λ s. let other = wrong_size len m passes blocks pieces list (eqb-false _ _ s) in
    never (cc (ap (λ (o : PacketOutcome). o.answer) other)))
  where
    results : List ℕ
    results = results_of_each len m (paired blocks pieces)

    written_number : length pieces ≡ length blocks * block_size → length blocks ≤ length list → Number (get_or (packet len m blocks pieces list).results i 0)
    written_number sized room =
        let many = results_length len m blocks pieces in
        let front = written_front list results (omega arith) in
        let here = get_or-append results (drop (length results) list) 0 i (omega arith) in
        rw (taken len m passes blocks pieces list sized room, front, here) (each_at Number results i 0 (each_number len m passes blocks pieces sized) (omega arith))

pub packets : EveryPacket
packets len m passes =
    record {
      empty = empty_packet len m passes;
      only_bytes = λ byte bytes list. wrong_size len m passes [] (byte ∷ bytes) list (λ e. omega arith);
      wrong_size = wrong_size len m passes;
      short_list = short_list len m passes;
      one = one_block len m passes;
      twice = two_blocks len m passes;
      numbers = result_numbers len m passes;
    }
