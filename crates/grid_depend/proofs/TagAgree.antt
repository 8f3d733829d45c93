-- Rules 14.17 and 14.18: two tags of one length that agree on the relevant bytes have the same number of beats (`count_agree`) and the
-- same beat k (`beat_agree`). Rests on the answer of each case (BeatAmong) and on numbers that agree (crate number).
use mathlib.Core.Path.{◌≡◌, refl, sym, ◌∙◌}
use mathlib.Core.Bool.{true}
use Prim.Native.Nat.{ℕ, ◌+◌, ◌≤◌}
use native.Mathlib.Omega.{arith}
use lib.Dec.{ltb}
use borrow.Author.Tests.{ltb-true, ltb-false}
use Rattle.lists.specs.Alias.{Bytes}
use Rattle.lists.proofs.Choice.{on, or_left, or_right}
use Rattle.number.specs.Agree.{Agree, DecidedBy, within}
use Rattle.number.proofs.NumberAgree.{within_less, agree_less, be16_agree, be32_agree}
use Rattle.refusal.specs.Answer.{Answer, given, refused, and_then}
use Rattle.anlz.specs.Element.{element_at}
use Rattle.entries.specs.Entries.{entry, entries, fills}
use Rattle.entries.specs.Every.{every_entry}
use Rattle.entries.specs.Bytes.{in_entry}
use Rattle.entries.proofs.EntriesAgree.{fills_agree, entry_agree, every_agree}
use Rattle.beat_grid.specs.Beat.{beat_size, beat_of, beat_holds}
use Rattle.beat_grid.specs.Grid.{len_beats, grid_in}
use Rattle.beat_grid.specs.Questions.{counted}
use Rattle.grid_depend.proofs.BeatAmong.{count_short, count_bars, count_given, grid_refused, beat_past, beat_inside}
use Rattle.grid_depend.specs.Bytes.{bar_byte, count_byte, has_beat, beat_byte}

-- the bar position decides whether a beat holds, and the eight bytes what it is
bar_decides : (entry : Bytes) → DecidedBy (within 0 2) beat_holds entry
bar_decides entry other a = rw (be16_agree 0x00 a)

beat_decides : (entry : Bytes) → DecidedBy (within 0 beat_size) beat_of entry
beat_decides entry other a = rw (be16_agree 0x00 (part 0x00 2 (omega arith)), be16_agree 0x02 (part 0x02 2 (omega arith)), be32_agree 0x04 (part 0x04 4 (omega arith)))
  where
    part : (at size : ℕ) → at + size ≤ beat_size → Agree (within at size) entry other
    part at size h = agree_less (λ i e. within_less at size 0 beat_size i (omega arith) (omega arith) e) a

module _ {s t : Bytes} (a : Agree (count_byte s) s t) where
  number_agree : len_beats s ≡ len_beats t
  unfolding count_byte
  number_agree = be32_agree 0x14 (agree_less (λ i e. or_left _ e) a)

  filled_agree : fills beat_size (len_beats s) s ≡ fills beat_size (len_beats s) t
  filled_agree = fills_agree beat_size (len_beats s) a

  module _ (f : fills beat_size (len_beats s) s ≡ true) where
    bar_bytes : Agree (bar_byte (len_beats s)) s t
    unfolding count_byte
    bar_bytes = agree_less (λ i e. or_right (within 0x14 4 i) (rw f e)) a

    all_bars_agree : every_entry beat_holds (entries beat_size (len_beats s) s) ≡ every_entry beat_holds (entries beat_size (len_beats s) t)
    all_bars_agree = every_agree (within 0 2) beat_size beat_holds bar_decides (len_beats s) bar_bytes

  pub count_agree : and_then (grid_in s) counted ≡ and_then (grid_in t) counted
  count_agree =
      on (fills beat_size (len_beats s) s)
      (λ f.
      let g = sym filled_agree ∙ f in
      on (every_entry beat_holds (entries beat_size (len_beats s) s))
      (λ b. sym (count_given s refl f b) ∙ count_given t number_agree g (sym (all_bars_agree f) ∙ b))
      (λ b. sym (count_bars s refl f b) ∙ count_bars t number_agree g (sym (all_bars_agree f) ∙ b)))
      (λ f. sym (count_short s refl f) ∙ count_short t number_agree (sym filled_agree ∙ f))

module _ (k : ℕ) {s t : Bytes} (a : Agree (beat_byte k s) s t) where
  count_bytes : Agree (count_byte s) s t
  unfolding beat_byte
  count_bytes = agree_less (λ i e. or_left _ e) a

  -- where there is a beat k
  beat_bytes : has_beat k (and_then (grid_in s) counted) ≡ true → Agree (in_entry (within 0 beat_size) beat_size k) s t
  unfolding beat_byte
  beat_bytes h = agree_less (λ i e. or_right (count_byte s i) (rw h e)) a

  pub beat_agree : and_then (grid_in s) (element_at k) ≡ and_then (grid_in t) (element_at k)
  beat_agree = by (and_then (grid_in s) counted) refl
    where
      by : (count : Answer ℕ) → count ≡ and_then (grid_in s) counted → and_then (grid_in s) (element_at k) ≡ and_then (grid_in t) (element_at k)
      by (refused f) e = sym (grid_refused s (element_at k) e) ∙ grid_refused t (element_at k) (e ∙ count_agree count_bytes)
      by (given n) e =
          let same = e ∙ count_agree count_bytes in
          on (ltb k n)
          (λ h.
          let inside = ltb-true k n h in
          sym (beat_inside s e k inside) ∙ rw (beat_decides (entry beat_size s k) (entry beat_size t k) (entry_agree (within 0 beat_size) beat_size k (beat_bytes (rw (← e) h))))
          (beat_inside t same k inside))
          (λ h. let past = ltb-false k n h in sym (beat_past s e k past) ∙ beat_past t same k past)
