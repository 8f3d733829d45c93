-- The pages that the walk for a table reads (specs/Reads): rule 7.3.
--     reads_table                 a page that the walk along the table's chain reads
--     PageWalked, page_walked     what is known of each: the header holds, and the page is one of the file, not the first, and is held
-- Rests on the chain's law that a page read is there and held.
use mathlib.Core.Path.{◌≡◌, refl}
use mathlib.Core.Bool.{true, false≢true}
use mathlib.Core.List.{[]}
use Prim.Native.Nat.{ℕ, suc, ◌≤◌}
use Rattle.refusal.specs.Answer.{Answer, given, refused}
use Rattle.table.specs.declared.Table.{Table}
use Rattle.bitmap.specs.Bit.{bit}
use Rattle.intake.specs.Memory.{Memory, block_at}
use Rattle.directory.specs.declared.Chain.{Chain}
use Rattle.directory.specs.Header.{header_holds}
use Rattle.directory.specs.Chain.{table_chain}
use Rattle.chain.specs.Held.{page_held}
use Rattle.chain.specs.File.{file_pages}
use Rattle.chain.specs.Reads.{reads_from}
use Rattle.chain.specs.Chain.{chain_reads}
use Rattle.table_walk.specs.Walk.{page_size}
use Rattle.table_walk.specs.Reads.{table_reads}
use Rattle.lists.proofs.Choice.{both_true}
use Rattle.directory.proofs.ChainAnswer.{chain_given}
use Rattle.chain.proofs.Linkable.{inside_both}
use Rattle.chain.proofs.SameWalk.{reads_held}
use Rattle.table_walk.proofs.SameBlocks.{InFile}
use Rattle.table_walk.proofs.TableWalk.{in_file}

pub record PageWalked (len : ℕ) (m : Memory) (number : ℕ) : Type 0 where
  pub first : bit m.map 0 ≡ true
  pub header : header_holds len (block_at m.image 0) ≡ true
  pub later : 1 ≤ number
  pub inside : InFile len (page_size m) number
  pub held : page_held (page_size m) m.map number ≡ true

module _ (len : ℕ) (m : Memory) (table : Table) (number : ℕ) where
  pub reads_table : bit m.map 0 ≡ true → chain_reads table m.image m.map (table_chain len (block_at m.image 0) table) number ≡ true
      → table_reads len m table number ≡ true
  unfolding table_reads
  reads_table b r = rw (b, r)

  by : bit m.map 0 ≡ true → (a : Answer Chain) → table_chain len (block_at m.image 0) table ≡ a → chain_reads table m.image m.map a number ≡ true
      → PageWalked len m number
  unfolding reads_from
  by b (given c) q r =
      let known = chain_given len (block_at m.image 0) table c q in
      let there = reads_held (file_pages c table m.image m.map) (suc c.page_count) [] c.first_page number r in
      record {
        first = b;
        header = known.header;
        later = (inside_both c.page_count number there.0).0;
        inside = rw (← known.linked.len_page) (in_file known there.0);
        held = rw (← known.linked.len_page) there.1;
      }
  by b (refused f) q r = absurd (false≢true r)

  pub page_walked : table_reads len m table number ≡ true → PageWalked len m number
  unfolding table_reads
  page_walked e =
      let chain = table_chain len (block_at m.image 0) table in
      let parts = both_true (bit m.map 0) (chain_reads table m.image m.map chain number) e in
      by parts.0 chain refl parts.1
