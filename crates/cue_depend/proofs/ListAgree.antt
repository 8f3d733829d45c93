-- Rule 14.30: two tags of one length that agree on the relevant bytes of a list both hold or do not (`holds_agree`), and those that also
-- agree on the relevant bytes of an entry have the same cue there (`cue_agree`). Rests on entries that agree (entries/EntriesAgree).
use mathlib.Core.Path.{◌≡◌}
use mathlib.Core.Bool.{true}
use Prim.Native.Nat.{ℕ}
use Rattle.lists.specs.Alias.{Bytes}
use Rattle.lists.proofs.Choice.{on, or_left, or_right}
use Rattle.number.specs.Agree.{Agree, DecidedBy, within}
use Rattle.number.proofs.NumberAgree.{agree_less, byte_agree, be16_agree, be32_agree}
use Rattle.entries.specs.Entries.{entry, fills}
use Rattle.entries.specs.Bytes.{in_entries}
use Rattle.entries.proofs.EntriesAgree.{fills_agree, entry_agree, every_agree}
use Rattle.cue_list.specs.declared.CueListType.{CueListType}
use Rattle.cue_list.specs.Cue.{cue_size, hot_cue, is_point, cue_holds, position_of, cue_of}
use Rattle.cue_list.specs.CueList.{list_type, len_cues, list_holds, list_type_of}
use Rattle.cue_depend.specs.Bytes.{judged_byte, list_byte, own_byte, entry_byte}

-- code, length and kind decide whether an entry holds
judged_decides : (entry : Bytes) → DecidedBy judged_byte cue_holds entry
unfolding judged_byte cue_holds
judged_decides entry other a =
    rw (
      be32_agree 0x00 (agree_less (λ i e. or_left _ e) a),
      be32_agree 0x08 (agree_less (λ i e. or_right (within 0x00 4 i) (or_left _ e)) a),
      byte_agree 0x1c (agree_less (λ i e. or_right (within 0x00 4 i) (or_right (within 0x08 4 i) e)) a),
    )

module _ {s t : Bytes} (a : Agree (list_byte s) s t) where
  type_agree : list_type s ≡ list_type t
  unfolding list_byte
  type_agree = be32_agree 0x0c (agree_less (λ i e. or_left _ e) a)

  pub count_agree : len_cues s ≡ len_cues t
  unfolding list_byte
  count_agree = be16_agree 0x12 (agree_less (λ i e. or_right (within 0x0c 4 i) (or_left _ e)) a)

  filled_agree : fills cue_size (len_cues s) s ≡ fills cue_size (len_cues s) t
  filled_agree = fills_agree cue_size (len_cues s) a

  entry_bytes : fills cue_size (len_cues s) s ≡ true → Agree (in_entries judged_byte cue_size (len_cues s)) s t
  unfolding list_byte
  entry_bytes f = agree_less (λ i e. or_right (within 0x0c 4 i) (or_right (within 0x12 2 i) (rw f e))) a

  pub holds_agree : list_holds s ≡ list_holds t
  unfolding list_holds
  holds_agree =
      on (fills cue_size (len_cues s) s)
      (λ f.
      let all = every_agree judged_byte cue_size cue_holds judged_decides (len_cues s) (entry_bytes f) in
      rw (← type_agree, ← count_agree, ← filled_agree, all))
      (λ f. rw (← type_agree, ← count_agree, ← filled_agree, f))

  pub list_type_agree : list_type_of s ≡ list_type_of t
  unfolding list_type_of
  list_type_agree = rw type_agree

-- hot cue number, kind and times decide the cue
module _ {s t : Bytes} (a : Agree (own_byte s) s t) where
  hot_agree : hot_cue s ≡ hot_cue t
  unfolding own_byte
  hot_agree = be32_agree 0x0c (agree_less (λ i e. or_left _ e) a)

  kind_agree : is_point s ≡ is_point t
  unfolding own_byte
  kind_agree = rw (byte_agree 0x1c (agree_less (λ i e. or_right (within 0x0c 4 i) (or_left _ e)) a))

  position_agree : position_of s ≡ position_of t
  unfolding own_byte position_of
  position_agree =
      let time = be32_agree 0x20 (agree_less (λ i e. or_right (within 0x0c 4 i) (or_right (within 0x1c 1 i) (or_left _ e))) a) in
      on (is_point s)
      (λ p. rw (← kind_agree, p, time))
      (λ p.
      let later = be32_agree 0x24
      (agree_less (λ i e. or_right (within 0x0c 4 i) (or_right (within 0x1c 1 i) (or_right (within 0x20 4 i) (rw p e)))) a) in
      rw (← kind_agree, p, time, later))

  own_agree : (list : CueListType) → cue_of list s ≡ cue_of list t
  own_agree list = rw (hot_agree, position_agree)

pub cue_agree : {s t : Bytes} (k : ℕ) → Agree (list_byte s) s t → Agree (entry_byte k s) s t
    → cue_of (list_type_of s) (entry cue_size s k) ≡ cue_of (list_type_of t) (entry cue_size t k)
cue_agree {s} k l a = rw (← list_type_agree l) (own_agree (entry_agree (own_byte (entry cue_size s k)) cue_size k a) (list_type_of s))
