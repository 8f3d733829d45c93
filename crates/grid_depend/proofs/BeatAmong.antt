-- Rules 14.10 to 14.14: what a section's beats are where they are given, and beat k among them.
use mathlib.Core.Path.{◌≡◌, sym, ◌∙◌}
use mathlib.Core.Bool.{true, false}
use mathlib.Core.List.{List, map}
use Prim.Native.Nat.{ℕ, ◌<◌, ◌≤◌}
use lib.ListN.{length}
use Rattle.lists.specs.Alias.{Bytes}
use Rattle.lists.proofs.Choice.{on, never}
use Rattle.refusal.specs.declared.Fault.{Fault}
use Rattle.refusal.specs.Fault.{fault}
use Rattle.refusal.specs.Answer.{Answer, given, refused, and_then}
use Rattle.anlz.specs.Element.{element_at}
use Rattle.entries.specs.Entries.{entry, entries, fills}
use Rattle.entries.specs.Every.{every_entry}
use Rattle.entries.proofs.EntryElement.{made_counted, made_past, made_inside}
use Rattle.beat_grid.specs.declared.GridBeat.{GridBeat}
use Rattle.beat_grid.specs.Beat.{beat_size, beat_of, beat_holds}
use Rattle.beat_grid.specs.Grid.{grid_in, beat_entries, len_beats}
use Rattle.beat_grid.specs.Questions.{counted}

-- so many beats of a tag
abbrev beats_of : (tag : Bytes) (n : ℕ) → List GridBeat
beats_of tag n = map beat_of (entries beat_size n tag)

-- the number of beats is n, and the tests that come before it
module _ (tag : Bytes) {n : ℕ} (number : n ≡ len_beats tag) where
  pub count_short : fills beat_size n tag ≡ false → refused (fault 23 0) ≡ and_then (grid_in tag) counted
  unfolding grid_in
  count_short e = rw (rw number at e)

  pub count_bars : fills beat_size n tag ≡ true → every_entry beat_holds (entries beat_size n tag) ≡ false → refused (fault 24 0) ≡ and_then (grid_in tag) counted
  unfolding grid_in
  count_bars e b = rw (rw number at e, rw number at b)

  grid_given : fills beat_size n tag ≡ true → every_entry beat_holds (entries beat_size n tag) ≡ true → grid_in tag ≡ given (beats_of tag n)
  unfolding grid_in
  grid_given e b = rw (rw number at e, rw number at b, number)

  pub count_given : fills beat_size n tag ≡ true → every_entry beat_holds (entries beat_size n tag) ≡ true → given n ≡ and_then (grid_in tag) counted
  count_given e b = rw (grid_given e b, made_counted beat_of beat_size n tag)

module _ (tag : Bytes) where
  -- where the number of beats is given, so are they
  counted_beats : {n : ℕ} → given n ≡ and_then (grid_in tag) counted → grid_in tag ≡ given (beats_of tag n)
  unfolding grid_in
  counted_beats {n} e =
      on (fills beat_size (len_beats tag) tag)
      (λ f. on (every_entry beat_holds (beat_entries tag)) (λ b. this f b (cc (rw (f, b) at e))) (λ b. never (cc (rw (f, b) at e))))
      (λ f. never (cc (rw f at e)))
    where
      this : fills beat_size (len_beats tag) tag ≡ true → every_entry beat_holds (beat_entries tag) ≡ true → n ≡ length (beats_of tag (len_beats tag)) → grid_in tag ≡ given (beats_of tag n)
      this f b same = let number : n ≡ len_beats tag = same ∙ made_counted beat_of beat_size (len_beats tag) tag in grid_given tag number (rw number f) (rw number b)

  pub grid_refused : {f : Fault} {A : Type 0} (rest : List GridBeat → Answer A) → refused f ≡ and_then (grid_in tag) counted → refused f ≡ and_then (grid_in tag) rest
  grid_refused {f} {A} rest e = by_answer (grid_in tag) e
    where
      by_answer : (grid : Answer (List GridBeat)) → refused f ≡ and_then grid counted → refused f ≡ and_then grid rest
      by_answer (given beats) q = never (cc q)
      by_answer (refused g) q = let same : f ≡ g = cc q in rw same

  module _ {n : ℕ} (count : given n ≡ and_then (grid_in tag) counted) where
    pub beat_past : (k : ℕ) → n ≤ k → refused (fault 18 0) ≡ and_then (grid_in tag) (element_at k)
    beat_past k h = rw (counted_beats count) (sym (made_past beat_of beat_size n tag k h))

    pub beat_inside : (k : ℕ) → k < n → given (beat_of (entry beat_size tag k)) ≡ and_then (grid_in tag) (element_at k)
    beat_inside k h = rw (counted_beats count) (sym (made_inside beat_of beat_size n tag k h))
