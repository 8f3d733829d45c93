-- The theorem about reading from a list (specs/DependList): rules 7.9, 7.11, 7.12 and 7.14.
--     those, held, in_use     its fields
-- Rests on proofs/ListAgree, on what stands in held blocks (proofs/RelevantHeld) and on proofs/InUseOnly.
use mathlib.Core.Path.{◌≡◌, refl, sym, ap, ◌∙◌}
use mathlib.Core.Bool.{true, ◌&&◌, false≢true}
use Prim.Native.Nat.{ℕ, ◌/◌, ◌%◌}
use lib.ListN.{length, get_or}
use lib.Dec.{ltb, eqb}
use borrow.Author.Tests.{eqb-true}
use Rattle.lists.specs.Alias.{Bytes, Words, Places}
use Rattle.lists.proofs.Choice.{on, both_true}
use Rattle.format.specs.Place.{linkable}
use Rattle.number.specs.Agree.{Agree, DecidedBy}
use Rattle.number.proofs.NumberAgree.{agree_less}
use Rattle.refusal.specs.declared.Fault.{Fault}
use Rattle.refusal.specs.Answer.{Answer, given, refused, and_then}
use Rattle.table.specs.declared.Table.{Table}
use Rattle.table.specs.Table.{slot_count}
use Rattle.page.specs.Bytes.{one_row_byte}
use Rattle.bitmap.specs.Bit.{bit}
use Rattle.intake.specs.Memory.{Memory, memory, block_at}
use Rattle.intake.specs.InUse.{SameInUse}
use Rattle.intake.proofs.PastInUse.{call_agree}
use Rattle.directory.specs.Header.{header_holds}
use Rattle.directory.proofs.GoodHeader.{good_header}
use Rattle.chain.specs.Held.{page_held}
use Rattle.chain.proofs.Linkable.{inside_both}
use Rattle.listed.specs.Rank.{page_of, rank}
use Rattle.table_walk.specs.Asked.{asked_table, with_slot}
use Rattle.table_walk.specs.Walk.{page_size}
use Rattle.export.specs.FromList.{record_listed, ask_record_in, text_listed, ask_text_in}
use Rattle.table_walk.proofs.AskedTable.{asked_sound}
use Rattle.table_walk.proofs.SameBlocks.{same_more}
use Rattle.table_walk.proofs.PageWalked.{PageWalked}
use Rattle.run.specs.Call.{row, text}
use Rattle.run.proofs.ListKept.{record_in_same, text_in_same}
use Rattle.depend.specs.Bytes.{page_at, page_with, first_block_byte}
use Rattle.depend.specs.Unread.{held_byte}
use Rattle.depend.specs.ListBytes.{Reading, record_from, text_from, read_answer, element_reads, element_byte, list_byte, list_byte_in, read_relevant}
use Rattle.depend.specs.DependList.{read_on, EveryReading}
use Rattle.depend.proofs.Depend.{asked_same}
use Rattle.depend.proofs.ListAgree.{record_agrees, text_agrees}
use Rattle.depend.proofs.RelevantHeld.{page-held, header_held}
use Rattle.depend.proofs.InUseOnly.{checked, asked_refused, same_blocks}

module _ (len : ℕ) (map : Words) (s t : Bytes) where
  abbrev m : Memory
  m = memory s map

  abbrev n : Memory
  n = memory t map

  record_agree : (number : ℕ) (list : Places) (element : ℕ) → Agree (list_byte_in len m list element (asked_table len m number)) s t
      → ask_record_in len m number list element ≡ ask_record_in len n number list element
  unfolding ask_record_in
  record_agree number list element a = rw (← asked_same len map s t a.long number) (by (asked_table len m number) a)
    where
      by : (x : Answer Table) → Agree (list_byte_in len m list element x) s t → and_then x (record_listed len m list element) ≡ and_then x (record_listed len n list element)
      by (given table) b = record_agrees len map s t table list element b
      by (refused f) b = refl

  text_agree : (number : ℕ) (list : Places) (element slot : ℕ)
      → Agree (list_byte_in len m list element (and_then (asked_table len m number) (λ table. with_slot slot table (given table)))) s t
      → ask_text_in len m number list element slot ≡ ask_text_in len n number list element slot
  unfolding ask_text_in
  text_agree number list element slot a = rw (← asked_same len map s t a.long number) (by (asked_table len m number) a)
    where
      by : (x : Answer Table) → Agree (list_byte_in len m list element (and_then x (λ table. with_slot slot table (given table)))) s t
          → and_then x (text_listed len m list element slot) ≡ and_then x (text_listed len n list element slot)
      by (given table) b =
          on (ltb slot (slot_count table)) (λ h. text_agrees len map s t table list element (rw h at b) slot) (λ h. rw h refl)
      by (refused f) b = refl

-- a relevant byte stands in a block that is held
module _ (len : ℕ) (m : Memory) (list : Places) (element i : ℕ) where
  abbrev number : ℕ
  number = page_of (page_size m) list element

  element_walked : element_reads len m list element ≡ true → PageWalked len m number
  unfolding element_reads
  element_walked e =
      let size = page_size m in
      let file = both_true (bit m.map 0 && header_holds len (block_at m.image 0)) _ e in
      let first = both_true (bit m.map 0) (header_holds len (block_at m.image 0)) file.0 in
      let page = both_true (ltb element (length list)) _ file.1 in
      let link = both_true (linkable (len / size) number) (page_held size m.map number) page.1 in
      let inside = inside_both (len / size) number link.0 in
      record {
        first = first.0;
        header = first.1;
        later = inside.0;
        inside = record { whole = (good_header len (block_at m.image 0) first.1).whole; inside = inside.1 };
        held = link.1;
      }

  element_held : (table : Table) → element_byte len m table list element i ≡ true → held_byte len m.map i ≡ true
  unfolding element_byte
  element_held table e =
      let size = page_size m in
      let parts = both_true (element_reads len m list element) _ e in
      let page = both_true (eqb (page_at m i) number) (one_row_byte (page_at m i) table (page_with m i) (get_or list element 0 % size) (rank size list element) (i % size)) parts.1 in
      page-held len m i (rw (eqb-true (page_at m i) number page.0) (element_walked parts.0))

  list_held : (asked : ℕ) (x : Answer Table) → x ≡ asked_table len m asked → list_byte_in len m list element x i ≡ true → held_byte len m.map i ≡ true
  unfolding list_byte
  list_held asked (given table) q e =
      on (first_block_byte m i) (λ h. header_held len m (asked_sound len m asked q) i h) (λ h. element_held table (rw h at e))
  list_held asked (refused f) q e = absurd (false≢true e)

  slot_held : (asked slot : ℕ) (x : Answer Table) → x ≡ asked_table len m asked
      → list_byte_in len m list element (and_then x (λ table. with_slot slot table (given table))) i ≡ true → held_byte len m.map i ≡ true
  slot_held asked slot (given table) q e =
      on (ltb slot (slot_count table)) (λ h. list_held asked (given table) q (rw h at e)) (λ h. absurd (false≢true (rw h at e)))
  slot_held asked slot (refused f) q e = absurd (false≢true e)

read_held : (len : ℕ) (m : Memory) (r : Reading) (i : ℕ) → read_relevant len m r i ≡ true → held_byte len m.map i ≡ true
read_held len m (record_from asked list element) i e = list_held len m list element i asked (asked_table len m asked) refl e
read_held len m (text_from asked list element slot) i e = slot_held len m list element i asked slot (asked_table len m asked) refl e

those : (len : ℕ) (map : Words) (r : Reading) (image : Bytes) → DecidedBy (read_relevant len (memory image map) r) (read_on len map r) image
those len map (record_from asked list element) image other a = ap row (record_agree len map image other asked list element a)
those len map (text_from asked list element slot) image other a = ap text (text_agree len map image other asked list element slot a)

-- memories that agree up to L and in the words in use
module _ {len : ℕ} {m n : Memory} (a : SameInUse len m n) where
  both_refused : {f : Fault} → checked len m ≡ refused f → checked len n ≡ refused f → (r : Reading) → read_answer len m r ≡ read_answer len n r
  unfolding ask_record_in ask_text_in
  both_refused e g (record_from asked list element) = rw (asked_refused len m asked e, asked_refused len n asked g) refl
  both_refused e g (text_from asked list element slot) = rw (asked_refused len m asked e, asked_refused len n asked g) refl

  both_sound : checked len m ≡ given tt → checked len n ≡ given tt → (r : Reading) → read_answer len m r ≡ read_answer len n r
  both_sound e g (record_from asked list element) =
      ap row (sym (record_in_same e g (same_more (same_blocks a)) (same_blocks a) asked list element))
  both_sound e g (text_from asked list element slot) =
      ap text (sym (text_in_same e g (same_more (same_blocks a)) (same_blocks a) asked list element slot))

  in_use : (r : Reading) → read_answer len m r ≡ read_answer len n r
  in_use r = by (checked len m) refl
    where
      by : (c : Answer Unit) → checked len m ≡ c → read_answer len m r ≡ read_answer len n r
      by (given u) e = both_sound e (sym (call_agree a refl) ∙ e) r
      by (refused f) e = both_refused e (sym (call_agree a refl) ∙ e) r

pub reading_depends : EveryReading
reading_depends len map r image =
    record {
      those = those len map r image;
      held = λ other a. those len map r image other (agree_less (read_held len (memory image map) r) a);
      in_use = λ other words a. in_use a r;
    }
