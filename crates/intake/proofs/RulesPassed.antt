-- What is known where refusals 1 to 3, or 1 to 4, do not apply (specs/Check), and that it is all that is needed. Rules 2.1 to 2.4.
--     lengths_given, lengths_pass               1 to 3 do not apply exactly when the length is allowed and both buffers are long enough
--     lengths_refused, call_refused             a refusal answers, whatever follows
--     call_passes                               past 1 to 4, what follows answers
--     sound, sound_accepted, sound_spare, call_given         1 to 4 do not apply exactly when, besides, no spare bit is set
--     whole_blocks                              an allowed length is a whole number of blocks
use mathlib.Core.Path.{◌≡◌, refl, ap, ◌∙◌}
use mathlib.Core.Bool.{Bool, true, false, ◌&&◌}
use mathlib.Core.List.{List}
use Prim.Native.Nat.{ℕ, ◌*◌, ◌%◌, ◌≤◌}
use native.Mathlib.Omega.{arith}
use lib.ListN.{length}
use lib.Dec.{eqb, leb, ltb}
use borrow.Author.Tests.{ltb-false, le-ltb, not-false, eqb-true}
use Rattle.lists.proofs.Choice.{on, never, both_true}
use Rattle.format.specs.Size.{block_size}
use Rattle.refusal.specs.declared.Fault.{Fault}
use Rattle.refusal.specs.Answer.{Answer, given, refused, refuse_if, and_then}
use Rattle.bitmap.specs.Words.{block_count, word_count}
use Rattle.bitmap.specs.Spare.{spare_bit}
use Rattle.intake.specs.Length.{allowed_length, longest}
use Rattle.intake.specs.Memory.{Memory}
use Rattle.intake.specs.Check.{check_lengths, check_call}
use Rattle.intake.specs.Sound.{Sound}

pub record Accepted (len : ℕ) (image map : List ℕ) : Type 0 where
  pub allowed : allowed_length len ≡ true
  pub image_long : len ≤ length image
  pub map_long : word_count len ≤ length map

-- one rule that is passed: its test failed
pub rule_passed : {A : Type 0} (test : Bool) (f : Fault) (rest : Answer A) {x : A} → refuse_if test f rest ≡ given x → (test ≡ false) × (rest ≡ given x)
rule_passed false f rest e = (refl, e)
rule_passed true f rest e = never (cc)

module _ (len : ℕ) (image map : List ℕ) where
  lengths_then : {A : Type 0} (rest end : Answer A) (first : Answer Unit) → rest ≡ and_then first (λ (u : Unit). end)
      → check_lengths len image map rest ≡ and_then (check_lengths len image map first) (λ (u : Unit). end)
  unfolding check_lengths
  lengths_then rest end first e =
      on (allowed_length len)
      (λ a. on (ltb (length image) len) (λ b. rw (a, b)) (λ b. on (ltb (length map) (word_count len)) (λ c. rw (a, b, c)) (λ c. rw (a, b, c) e)))
      (λ a. rw a)

  pub lengths_given : {A : Type 0} {rest : Answer A} {x : A} → check_lengths len image map rest ≡ given x → Accepted len image map × (rest ≡ given x)
  unfolding check_lengths
  lengths_given e =
      let one = rule_passed _ _ _ e in
      let two = rule_passed _ _ _ one.1 in
      let three = rule_passed _ _ _ two.1 in (
        record {
          allowed = not-false (allowed_length len) one.0;
          image_long = ltb-false (length image) len two.0;
          map_long = ltb-false (length map) (word_count len) three.0;
        },
        three.1,
      )

  pub lengths_pass : {A : Type 0} → Accepted len image map → (rest : Answer A) → check_lengths len image map rest ≡ rest
  unfolding check_lengths
  lengths_pass a rest = rw (a.allowed, le-ltb (length image) len a.image_long, le-ltb (length map) (word_count len) a.map_long)

  pub lengths_refused : {A : Type 0} {f : Fault} → check_lengths {A = Unit} len image map (given tt) ≡ refused f
      → (rest : Answer A) → check_lengths len image map rest ≡ refused f
  lengths_refused e rest = lengths_then rest rest (given tt) refl ∙ ap (λ (a : Answer Unit). and_then a (λ (u : Unit). rest)) e

module _ (len : ℕ) (m : Memory) where
  call_then : {A : Type 0} (rest : Answer A) → check_call len m rest ≡ and_then (check_call {A = Unit} len m (given tt)) (λ (u : Unit). rest)
  unfolding check_call
  call_then rest = lengths_then len m.image m.map _ rest _ (on (spare_bit len m.map) (λ e. rw e) (λ e. rw e))

  pub call_passes : {A : Type 0} → Sound len m → (rest : Answer A) → check_call len m rest ≡ rest
  call_passes e rest = call_then rest ∙ ap (λ (a : Answer Unit). and_then a (λ (u : Unit). rest)) e

  pub call_refused : {A : Type 0} {f : Fault} → check_call {A = Unit} len m (given tt) ≡ refused f → (rest : Answer A) → check_call len m rest ≡ refused f
  call_refused e rest = call_then rest ∙ ap (λ (a : Answer Unit). and_then a (λ (u : Unit). rest)) e

  pub sound : Accepted len m.image m.map → spare_bit len m.map ≡ false → Sound len m
  unfolding check_call
  sound a e = lengths_pass len m.image m.map a _ ∙ rw e

  pub call_given : {A : Type 0} {rest : Answer A} {x : A} → check_call len m rest ≡ given x → Sound len m × (rest ≡ given x)
  unfolding check_call
  call_given e =
      let three = lengths_given len m.image m.map e in
      let four = rule_passed _ _ _ three.1 in
      (sound three.0 four.0, four.1)

  pub sound_accepted : Sound len m → Accepted len m.image m.map
  unfolding check_call
  sound_accepted e = (lengths_given len m.image m.map e).0

pub sound_spare : (len : ℕ) (m : Memory) → Sound len m → spare_bit len m.map ≡ false
unfolding check_call
sound_spare len m e = (rule_passed _ _ _ (lengths_given len m.image m.map e).1).0

pub whole_blocks : (len : ℕ) → allowed_length len ≡ true → len ≡ block_count len * block_size
unfolding allowed_length
whole_blocks len e =
    omega (arith, eqb-true (len % block_size) 0 (both_true (eqb (len % block_size) 0) (leb block_size len && leb len longest) e).0)
