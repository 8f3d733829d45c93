-- The verdict on a delivery (specs/Deliver), case by case, and what it tells. Rule 2.27.
--     block_inside, word_inside                    a block of the file lies inside the image, and its word inside the map
--     call_refuses, number_refused, size_refused, bytes_refused, is_same, is_new    the verdict in each case
--     passed, new_absent                           what is known where it is not a refusal, and where it is New
--     refused_outcome, counted_outcome             the whole delivery, from what the calls of `deliver` give
-- Rests on refusals 1 to 4 (proofs/RulesPassed).
use mathlib.Core.Path.{◌≡◌, sym, ◌∙◌}
use mathlib.Core.Bool.{true, false}
use mathlib.Core.List.{List}
use Prim.Native.Nat.{ℕ, ◌+◌, ◌*◌, ◌/◌, ◌<◌, ◌≤◌}
use native.Mathlib.Omega.{arith}
use lib.ListN.{length}
use borrow.Author.Tests.{le-leb, lt-leb, eq-eqb, ne_eqb, leb-false, eqb-true, not-false}
use Rattle.lists.proofs.Choice.{on, never}
use Rattle.format.specs.Size.{block_size}
use Rattle.refusal.specs.declared.Fault.{Fault}
use Rattle.refusal.specs.Fault.{fault}
use Rattle.refusal.specs.Answer.{Answer, given, refused}
use Rattle.bitmap.specs.Words.{block_count}
use Rattle.bitmap.specs.Bit.{bit}
use Rattle.intake.specs.Memory.{Memory, block_at}
use Rattle.intake.specs.Check.{check_call}
use Rattle.intake.specs.Equal.{equal}
use Rattle.intake.specs.Deliver.{Verdict, new, same, verdict, Judgement, judged, Taken, with_count, outcome, delivery}
use Rattle.intake.specs.Sound.{Sound}
use Rattle.intake.proofs.RulesPassed.{rule_passed, call_passes, call_refused, call_given, sound_accepted}

pub block_inside : (len : ℕ) (m : Memory) (block : ℕ) → Sound len m → block < block_count len → block * block_size + block_size ≤ length m.image
block_inside len m block e h = omega (arith, (sound_accepted len m e).image_long)

pub word_inside : (len : ℕ) (m : Memory) (block : ℕ) → Sound len m → block < block_count len → block / 64 < length m.map
word_inside len m block e h = omega (arith, (sound_accepted len m e).map_long)

module _ (len : ℕ) (m : Memory) (block : ℕ) (piece : List ℕ) where
  -- none of refusals 1 to 6 applies
  pub record Passed : Type 0 where
    pub sound : Sound len m
    pub inside : block < block_count len
    pub sized : length piece ≡ block_size

  pub call_refuses : {f : Fault} → check_call {A = Unit} len m (given tt) ≡ refused f → verdict len m block piece ≡ refused f
  unfolding verdict
  call_refuses e = call_refused len m e _

  module _ (sound : Sound len m) where
    pub number_refused : block_count len ≤ block → verdict len m block piece ≡ refused (fault 5 0)
    unfolding verdict
    number_refused h = call_passes len m sound _ ∙ rw (le-leb (block_count len) block h)

    module _ (inside : block < block_count len) where
      pub size_refused : (length piece ≡ block_size → ⊥) → verdict len m block piece ≡ refused (fault 6 0)
      unfolding verdict
      size_refused h = call_passes len m sound _ ∙ rw (lt-leb (block_count len) block inside, ne_eqb (length piece) block_size h)

      module _ (sized : length piece ≡ block_size) where
        pub is_new : bit m.map block ≡ false → verdict len m block piece ≡ given new
        unfolding verdict
        is_new b = call_passes len m sound _ ∙ rw (lt-leb (block_count len) block inside, eq-eqb (length piece) block_size sized, b)

        module _ (held : bit m.map block ≡ true) where
          pub is_same : equal (block_at m.image block) piece ≡ true → verdict len m block piece ≡ given same
          unfolding verdict
          is_same e = call_passes len m sound _ ∙ rw (lt-leb (block_count len) block inside, eq-eqb (length piece) block_size sized, held, e)

          pub bytes_refused : equal (block_at m.image block) piece ≡ false → verdict len m block piece ≡ refused (fault 7 0)
          unfolding verdict
          bytes_refused e = call_passes len m sound _ ∙ rw (lt-leb (block_count len) block inside, eq-eqb (length piece) block_size sized, held, e)

  pub passed : {v : Verdict} → verdict len m block piece ≡ given v → Passed
  unfolding verdict
  passed e =
      let four = call_given len m e in
      let five = rule_passed _ _ _ four.1 in
      let six = rule_passed _ _ _ five.1 in
      record { sound = four.0; inside = leb-false (block_count len) block five.0; sized = eqb-true (length piece) block_size (not-false _ six.0) }

  pub new_absent : verdict len m block piece ≡ given new → bit m.map block ≡ false
  new_absent e =
      let p = passed e in
      on (bit m.map block)
      (λ b. on (equal (block_at m.image block) piece)
      (λ q. let other = is_same p.sound p.inside p.sized b q in
      never (cc))
      (λ q. let other = bytes_refused p.sound p.inside p.sized b q in
      never (cc)))
      (λ b. b)

  -- the delivery, from what the calls of `deliver` give
  pub refused_outcome : {f : Fault} → refused f ≡ check_call {A = Unit} len m (given tt) → outcome (refused f) m ≡ delivery len m block piece
  unfolding delivery
  refused_outcome e = rw (call_refuses (sym e))

  pub counted_outcome : {j : Judgement} {a : Answer Taken} → j ≡ judged len m block piece → a ≡ with_count len j.memory.map j.verdict
      → outcome a j.memory ≡ delivery len m block piece
  unfolding delivery
  counted_outcome e n = rw (n, e)
