-- The walk for a table of a file (specs/Walk).
--     table_walk_holds    what holds in each of its cases holds of the walk
--     table_walk_same     memories with the same held blocks give the same walk
--     table_walk_grows    with more blocks held, Full and refusals stay, and what Waiting found stays in front
-- Rests on the chain's laws (chain: SameWalk, WalkGrows, ChainPlaces) and on the parts of held pages (proofs/SameBlocks).
use mathlib.Core.Path.{◌≡◌, refl, sym, ap, ◌∙◌}
use mathlib.Core.Bool.{true}
use mathlib.Core.List.{[]}
use Prim.Native.Nat.{ℕ, ◌≤◌}
use Rattle.lists.specs.Alias.{Bytes}
use Rattle.page.specs.Found.{Rows}
use Rattle.format.specs.Place.{linkable}
use Rattle.refusal.specs.declared.Fault.{Fault}
use Rattle.refusal.specs.Answer.{Answer, given, refused}
use Rattle.table.specs.declared.Table.{Table}
use Rattle.page.specs.Header.{next_page}
use Rattle.page.specs.Read.{read_page}
use Rattle.bitmap.specs.Bit.{bit}
use Rattle.intake.specs.Sound.{Sound}
use Rattle.intake.specs.Memory.{Memory, block_at}
use Rattle.directory.specs.declared.Chain.{Chain}
use Rattle.directory.specs.Chain.{table_chain}
use Rattle.chain.specs.Walk.{Walk, waiting, walk_from}
use Rattle.chain.specs.Held.{page_held}
use Rattle.chain.specs.File.{page_part, page_next, file_pages}
use Rattle.chain.specs.Chain.{chain_walk}
use Rattle.table_walk.specs.Walk.{table_walk}
use Rattle.lists.proofs.Choice.{on, cond_holds}
use Rattle.directory.proofs.GoodHeader.{good_header}
use Rattle.directory.proofs.ChainAnswer.{FileChain, chain_given, chain_refused}
use Rattle.chain.proofs.Linkable.{inside_both}
use Rattle.chain.proofs.SameWalk.{walk_from_same}
use Rattle.chain.proofs.WalkGrows.{Grows, begins_any, walk_from_grows}
use Rattle.table_walk.proofs.SameBlocks.{SameBlocks, MoreBlocks, same_more, InFile, some_block, first_same, held_same, held_more, part_same}

-- the walk along a file's chain
abbrev pub file_walk : (c : Chain) (table : Table) (m : Memory) → Walk Rows
file_walk c table m = walk_from (file_pages c table m.image m.map) c.first_page

module _ (len : ℕ) (m : Memory) (table : Table) where
  pub table_walk_holds : (P : Walk Rows → Type 0) → P (given (waiting 0 [] 0))
      → ((f : Fault) → (9 ≤ f.number) × (f.number ≤ 11) × (f.value ≡ 0) × (f.entry ≡ 0) → P (refused f))
      → ((c : Chain) → bit m.map 0 ≡ true → table_chain len (block_at m.image 0) table ≡ given c → P (file_walk c table m))
      → P (table_walk len m table)
  unfolding table_walk
  table_walk_holds P missing refusal chain =
      cond_holds P (bit m.map 0) (λ e. by e (table_chain len (block_at m.image 0) table) refl) (λ _. missing)
    where
      by : bit m.map 0 ≡ true → (a : Answer Chain) → table_chain len (block_at m.image 0) table ≡ a → P (chain_walk table m.image m.map a)
      by e (given c) q = chain c e q
      by e (refused f) q = refusal f (chain_refused len (block_at m.image 0) table f q)

-- a link of a file's chain names a page of the file
pub in_file : {len : ℕ} {block : Bytes} {c : Chain} {number : ℕ} → FileChain len block c → linkable c.page_count number ≡ true
    → InFile len c.len_page number
in_file {len} {block} {c} {number} f e =
    record {
      whole = rw f.linked.len_page (good_header len block f.header).whole;
      inside = rw (f.linked.len_page, ← f.linked.page_count) (inside_both c.page_count number e).1;
    }

-- what relates a refusal to itself, and the two walks of a file's chain, relates the walks from one first block
both_chains : (len : ℕ) (a b : Memory) (table : Table) (R : Walk Rows → Walk Rows → Type 0) → ((f : Fault) → R (refused f) (refused f))
    → (block : Bytes) → ((c : Chain) → FileChain len block c → R (file_walk c table a) (file_walk c table b))
    → R (chain_walk table a.image a.map (table_chain len block table)) (chain_walk table b.image b.map (table_chain len block table))
both_chains len a b table R refusal block chain = by (table_chain len block table) refl
  where
    by : (t : Answer Chain) → table_chain len block table ≡ t → R (chain_walk table a.image a.map t) (chain_walk table b.image b.map t)
    by (given c) q = chain c (chain_given len block table c q)
    by (refused f) q = refusal f

module _ {len : ℕ} {a b : Memory} (sound_a : Sound len a) (sound_b : Sound len b) (table : Table) where
  -- a page that is held is read alike and has the same next page
  module _ (more : MoreBlocks len a b) {block : Bytes} {c : Chain} (f : FileChain len block c) (page : ℕ)
      (i : linkable c.page_count page ≡ true) (e : page_held c.len_page a.map page ≡ true) where
    same_part : page_part c.len_page a.image page ≡ page_part c.len_page b.image page
    same_part = part_same more sound_a sound_b (in_file f i) e

    same_read : read_page page table (page_part c.len_page a.image page) ≡ read_page page table (page_part c.len_page b.image page)
    same_read = ap (read_page page table) same_part

    same_next : page_next c.len_page a.image page ≡ page_next c.len_page b.image page
    unfolding page_next
    same_next = ap (λ (s : Bytes). next_page s) same_part

  pub table_walk_same : SameBlocks len a b → table_walk len a table ≡ table_walk len b table
  unfolding table_walk
  table_walk_same same =
      let more = same_more same in
      let zero = same.bits 0 (some_block len a sound_a) in
      on (bit a.map 0)
      (λ e. rw (e, sym zero ∙ e, ← first_same more sound_a sound_b e) (both_chains len a b table (λ v w. v ≡ w) (λ f. refl) (block_at a.image 0) chains))
      (λ e. rw (e, sym zero ∙ e) refl)
    where
      chains : (c : Chain) → FileChain len (block_at a.image 0) c → file_walk c table a ≡ file_walk c table b
      chains c f =
          walk_from_same
          (record { count = refl; last = λ page. refl; held = λ page i. held_same same (in_file f i) })
          (λ page i e. record { read = same_read (same_more same) f page i e; next = same_next (same_more same) f page i e })
          c.first_page

  pub table_walk_grows : MoreBlocks len a b → Grows (table_walk len a table) (table_walk len b table)
  unfolding table_walk
  table_walk_grows more =
      on (bit a.map 0)
      (λ e. rw (e, more.bits 0 (some_block len a sound_a) e, ← first_same more sound_a sound_b e)
      (both_chains len a b table Grows (λ f. refl) (block_at a.image 0) chains))
      (λ e. rw e (begins_any (table_walk len b table)))
    where
      chains : (c : Chain) → FileChain len (block_at a.image 0) c → Grows (file_walk c table a) (file_walk c table b)
      chains c f =
          walk_from_grows
          (record {
            count = refl;
            last = λ page. refl;
            held = λ page i. held_more more sound_a sound_b (in_file f i);
            read = same_read more f;
            next = same_next more f;
          })
          c.first_page
