-- Two images that agree on a page's relevant bytes agree on them in the page's own part.
--     page_part_agree            byte i of page q is byte q * len_page + i of the image
--     block_agree, size_same     block 0 and len_page, where the block is held
use mathlib.Core.Path.{◌≡◌}
use mathlib.Core.Bool.{Bool, true}
use Prim.Native.Nat.{ℕ, ◌+◌, ◌*◌, ◌<◌}
use native.Mathlib.Omega.{arith}
use Rattle.lists.specs.Alias.{Bytes, Words}
use Rattle.format.specs.Size.{block_size}
use Rattle.number.specs.Agree.{Agree}
use Rattle.number.proofs.NumberAgree.{agree_less, take_agree, drop_agree, part_agree}
use Rattle.bitmap.specs.Bit.{bit}
use Rattle.intake.specs.Memory.{memory, block_at}
use Rattle.directory.specs.Bytes.{directory_byte}
use Rattle.directory.proofs.HeaderAgree.{size_agree}
use Rattle.chain.specs.File.{page_part}
use Rattle.table_walk.specs.Walk.{page_size}
use Rattle.depend.specs.Bytes.{first_block_byte}

module _ {test : ℕ → Bool} {s t : Bytes} (a : Agree test s t) where
  pub page_part_agree : (size q : ℕ) (in_page : ℕ → Bool) → ((i : ℕ) → i < size → in_page i ≡ true → test (q * size + i) ≡ true)
      → Agree in_page (page_part size s q) (page_part size t q)
  unfolding page_part
  page_part_agree size q in_page f = part_agree (q * size) size f a

module _ (map : Words) (s t : Bytes) (a : Agree (first_block_byte (memory s map)) s t) (b : bit map 0 ≡ true) where
  block_byte : (i : ℕ) → directory_byte (block_at s 0) i ≡ true → first_block_byte (memory s map) i ≡ true
  unfolding first_block_byte
  block_byte i e = rw (b, e)

  pub block_agree : Agree (directory_byte (block_at s 0)) (block_at s 0) (block_at t 0)
  unfolding block_at
  block_agree =
      agree_less (λ i e. let z : 0 * block_size + i ≡ i = omega arith in rw z (block_byte i e)) (take_agree block_size (drop_agree (0 * block_size) a))

  pub size_same : page_size (memory s map) ≡ page_size (memory t map)
  size_same = size_agree block_agree
