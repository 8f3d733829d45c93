-- Rules 7.2 and 7.3: two images that agree on the relevant bytes of a table have the same walk for it.
--     table_size     len_page, where block 0 is held
--     page_agree     each page that the walk reads
--     walk_agree     the walk
-- Rests on the agreement laws of crates `directory` and `chain`.
use mathlib.Core.Path.{◌≡◌, refl}
use mathlib.Core.Bool.{true}
use Prim.Native.Nat.{ℕ, ◌+◌, ◌*◌, ◌<◌}
use Rattle.lists.specs.Alias.{Bytes, Words}
use Rattle.number.specs.Agree.{Agree}
use Rattle.table.specs.declared.Table.{Table}
use Rattle.page.specs.Bytes.{page_byte}
use Rattle.bitmap.specs.Bit.{bit}
use Rattle.intake.specs.Memory.{Memory, memory, block_at}
use Rattle.directory.specs.Chain.{table_chain}
use Rattle.chain.specs.File.{page_part}
use Rattle.table_walk.specs.Walk.{page_size, table_walk}
use Rattle.table_walk.specs.Reads.{table_reads}
use Rattle.depend.specs.Bytes.{walked_byte, first_block_byte, table_byte}
use Rattle.lists.proofs.Choice.{cond_agree, or_left, or_right}
use Rattle.number.proofs.NumberAgree.{agree_less}
use Rattle.directory.proofs.HeaderAgree.{chain_agree}
use Rattle.directory.proofs.ChainAnswer.{chain_given}
use Rattle.chain.proofs.PagePart.{page-of, start_of}
use Rattle.chain.proofs.FileAgree.{PageAgrees, chain_walk_agree}
use Rattle.table_walk.proofs.PageWalked.{reads_table}
use Rattle.depend.proofs.PartAgree.{page_part_agree, block_agree, size_same}

module _ (len : ℕ) (map : Words) (s t : Bytes) (table : Table) (a : Agree (table_byte len (memory s map) table) s t) where
  abbrev m : Memory
  m = memory s map

  first_bytes : Agree (first_block_byte m) s t
  unfolding table_byte
  first_bytes = agree_less (λ i e. or_left _ e) a

  pub table_size : bit map 0 ≡ true → page_size m ≡ page_size (memory t map)
  table_size = size_same map s t first_bytes

  -- byte i of page q is byte q * len_page + i of the image
  page-byte : (q i : ℕ) → table_reads len m table q ≡ true → i < page_size m → page_byte q table (page_part (page_size m) s q) i ≡ true
      → table_byte len m table (q * page_size m + i) ≡ true
  unfolding table_byte walked_byte
  page-byte q i r h e =
      let size = page_size m in
      or_right (first_block_byte m (q * size + i)) (simp (page-of size q i h, start_of size q i h, r, e))

  pub page_agree : (q : ℕ) → table_reads len m table q ≡ true → PageAgrees table s t (page_size m) q
  page_agree q r = page_part_agree a (page_size m) q (page_byte q table (page_part (page_size m) s q)) (λ i h e. page-byte q i r h e)

  pub walk_agree : table_walk len m table ≡ table_walk len (memory t map) table
  unfolding table_walk
  walk_agree =
      cond_agree (bit map 0)
      (λ b. rw (← chain_agree (block_agree map s t first_bytes b) len table)
      (chain_walk_agree table s t map (table_chain len (block_at s 0) table)
      (λ c e q r. rw (chain_given len (block_at s 0) table c e).linked.len_page (page_agree q (reads_table len m table q b r)))))
      (λ _. refl)
