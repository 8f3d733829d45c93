-- An opening (specs/Open): its outcome where it is refused and where it is not, and what the map is then. Rule 1.11.
--     opens, opening_accepted      it is given exactly when 1 to 3 are passed
--     open_refused, open_given     the outcome, from what the calls of `open` give
--     past_cleared                 words past those in use are as before
use mathlib.Core.Path.{◌≡◌, refl, sym}
use mathlib.Core.Option.{none}
use mathlib.Core.List.{List, ◌++◌}
use Prim.Native.Nat.{ℕ, ◌≤◌}
use lib.ListN.{length, take, drop, replicate, length-replicate}
use lib.Seq.{drop_at, length-take-le}
use Rattle.std.specs.Prelude.{Ok}
use Rattle.lists.proofs.Choice.{never}
use Rattle.refusal.specs.declared.Fault.{Fault}
use Rattle.refusal.specs.Answer.{Answer, given, refused, fault_in}
use Rattle.bitmap.specs.Words.{block_count, word_count}
use Rattle.intake.specs.Check.{check_lengths}
use Rattle.intake.specs.Open.{OpenedFile, opened, opening_of, open_answer, opening, cleared}
use Rattle.intake.specs.declared.Intake.{Intake}
use Rattle.intake.proofs.RulesPassed.{Accepted, lengths_given, lengths_pass, lengths_refused}

module _ (len : ℕ) (image map : List ℕ) where
  pub opens : Accepted len image map → opening len image map ≡ record { answer = given (opened len (block_count len)); map = cleared len map }
  unfolding opening
  opens a = rw (lengths_pass len image map a (given (opened len (block_count len))))

  pub opening_accepted : fault_in (opening len image map).answer ≡ none → Accepted len image map
  unfolding opening
  opening_accepted e = by (open_answer len image map) refl e
    where
      by : (a : Answer OpenedFile) → open_answer len image map ≡ a → fault_in a ≡ none → Accepted len image map
      by (given file) q f = (lengths_given len image map q).0
      by (refused r) q f = never (cc)

  pub open_refused : {f : Fault} → refused f ≡ check_lengths {A = Unit} len image map (given tt)
      → record { answer = refused f; map = map } ≡ opening len image map
  unfolding opening
  open_refused e = rw (lengths_refused len image map (sym e) (given (opened len (block_count len))))

  -- from what the calls of `open` give
  module _ (sound : check_lengths {A = Unit} len image map (given tt) ≡ given tt) where
    pub words_inside : {words : ℕ} → words ≡ word_count len → words ≤ length map
    words_inside e = rw e (lengths_given len image map sound).0.map_long

    pub open_given : {intake : Intake} {blocks words : ℕ} {part : List ℕ} → intake.len ≡ len → blocks ≡ block_count len → words ≡ word_count len
        → part ≡ replicate (length (take words map)) 0
        → opening_of (Ok (record { intake = intake; blocks = blocks })) (part ++ drop words map) ≡ opening len image map
    unfolding cleared
    open_given {intake} {blocks} {words} i b w f =
        rw (opens (lengths_given len image map sound).0, f, length-take-le words map (words_inside w), i, b, w)

pub past_cleared : (len : ℕ) (map : List ℕ) → drop (word_count len) (cleared len map) ≡ drop (word_count len) map
unfolding cleared
past_cleared len map = drop_at (replicate (word_count len) 0) (drop (word_count len) map) (word_count len) (length-replicate (word_count len) 0)
