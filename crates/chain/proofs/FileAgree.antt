-- Two images that agree on the relevant bytes of the pages that the walk reads give the same walk: rules 7.3 to 7.7.
-- Rests on the agreement of pages (crate `page`) and on proofs/SameWalk.
use mathlib.Core.Path.{◌≡◌, refl}
use mathlib.Core.Bool.{true}
use Prim.Native.Nat.{ℕ}
use Rattle.lists.specs.Alias.{Bytes, Words}
use Rattle.number.specs.Agree.{Agree}
use Rattle.refusal.specs.Answer.{Answer, given, refused}
use Rattle.table.specs.declared.Table.{Table}
use Rattle.directory.specs.declared.Chain.{Chain}
use Rattle.page.specs.Bytes.{page_byte}
use Rattle.chain.specs.File.{page_part, page_next}
use Rattle.chain.specs.Chain.{chain_walk, chain_reads}
use Rattle.page.proofs.PageAgree.{next_same, read_agree}
use Rattle.chain.proofs.SameWalk.{walk_from_agree}

-- two images agree on the relevant bytes of a page
abbrev pub PageAgrees : (table : Table) (s t : Bytes) (size page : ℕ) → Type 0
PageAgrees table s t size page = Agree (page_byte page table (page_part size s page)) (page_part size s page) (page_part size t page)

pub chain_walk_agree : (table : Table) (s t : Bytes) (map : Words) (chain : Answer Chain)
    → ((c : Chain) → chain ≡ given c → (page : ℕ) → chain_reads table s map chain page ≡ true → PageAgrees table s t c.len_page page)
    → chain_walk table s map chain ≡ chain_walk table t map chain
unfolding page_next
chain_walk_agree table s t map (given c) each =
    walk_from_agree (record { count = refl; last = λ page. refl; held = λ page l. refl }) c.first_page
    (λ page r. let a = each c refl page r in record { read = read_agree page table a; next = next_same page table a })
chain_walk_agree table s t map (refused f) each = refl
