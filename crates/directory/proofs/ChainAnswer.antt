-- What the walk needs of a table's chain (specs/Chain).
--     chain_answer         of a directory's: its links are good, or it is refused by 10 or 11, carrying 0
--     chain_given          of a file's: the header is good, and page length and P are the header's
--     chain_refused        of a file's: its refusals are 9 to 11
-- Rules 3.9 to 3.14.
use mathlib.Core.Path.{◌≡◌, refl, subst}
use mathlib.Core.Bool.{true, not}
use mathlib.Core.List.{List, [], ◌∷◌}
use Prim.Native.Nat.{ℕ, ◌≤◌}
use native.Mathlib.Omega.{arith}
use lib.ListN.{take}
use lib.Dec.{eqb}
use borrow.Author.Tests.{not-false}
use Rattle.lists.specs.Alias.{Bytes}
use Rattle.format.specs.Place.{linkable}
use Rattle.refusal.specs.declared.Fault.{Fault}
use Rattle.refusal.specs.Answer.{Answer, given, refused, and_then}
use Rattle.table.specs.declared.Table.{Table}
use Rattle.table.specs.Table.{table_number}
use Rattle.directory.specs.declared.Pointer.{Pointer}
use Rattle.directory.specs.declared.Directory.{Directory}
use Rattle.directory.specs.declared.Chain.{Chain}
use Rattle.directory.specs.Header.{header_holds}
use Rattle.directory.specs.Directory.{file_directory}
use Rattle.directory.specs.Chain.{pointer_among, linked_chain, chain_in, table_chain}
use Rattle.lists.proofs.Choice.{cond_holds}

-- what is known of a chain that a directory gives
pub record LinkedChain (d : Directory) (c : Chain) : Type 0 where
  pub len_page : c.len_page ≡ d.len_page
  pub page_count : c.page_count ≡ d.page_count
  pub first : linkable d.page_count c.first_page ≡ true
  pub last : linkable d.page_count c.last_page ≡ true

abbrev pub ChainAnswer : Directory → Answer Chain → Type 0
ChainAnswer d (given c) = LinkedChain d c
ChainAnswer d (refused f) = (10 ≤ f.number) × (f.number ≤ 11) × (f.value ≡ 0) × (f.entry ≡ 0)

linked_answer : (d : Directory) (p : Pointer) → ChainAnswer d (linked_chain d p)
linked_answer d p =
    let first = linkable d.page_count p.first_page in
    let last = linkable d.page_count p.last_page in
    cond_holds (ChainAnswer d) (not first) (λ _. (omega arith, omega arith, refl, refl))
    (λ f. cond_holds (ChainAnswer d) (not last) (λ _. (omega arith, omega arith, refl, refl))
    (λ l. record { len_page = refl; page_count = refl; first = not-false first f; last = not-false last l }))

among_answer : (d : Directory) (t : ℕ) (ps : List Pointer) → ChainAnswer d (and_then (pointer_among t ps) (linked_chain d))
unfolding pointer_among
among_answer d t [] = (omega arith, omega arith, refl, refl)
among_answer d t (p ∷ ps) =
    cond_holds (λ (a : Answer Pointer). ChainAnswer d (and_then a (linked_chain d))) (eqb p.table_type t) (λ _. linked_answer d p) (λ _. among_answer d t ps)

pub chain_answer : (d : Directory) (table : Table) → ChainAnswer d (chain_in d table)
unfolding chain_in
chain_answer d table = among_answer d (table_number table) (take d.count d.pointers)

-- what is known of a table's chain in a file of len bytes
pub record FileChain (len : ℕ) (block : Bytes) (c : Chain) : Type 0 where
  pub header : header_holds len block ≡ true
  pub linked : LinkedChain (file_directory len block) c

abbrev FileAnswer : (len : ℕ) (block : Bytes) (chain : Answer Chain) → Type 0
FileAnswer len block (given c) = FileChain len block c
FileAnswer len block (refused f) = (9 ≤ f.number) × (f.number ≤ 11) × (f.value ≡ 0) × (f.entry ≡ 0)

file_answer : (len : ℕ) (block : Bytes) (table : Table) → FileAnswer len block (table_chain len block table)
unfolding table_chain
file_answer len block table =
    cond_holds (FileAnswer len block) (not (header_holds len block)) (λ _. (omega arith, omega arith, refl, refl))
    (λ h. by (not-false (header_holds len block) h) (chain_in (file_directory len block) table) (chain_answer (file_directory len block) table))
  where
    by : header_holds len block ≡ true → (a : Answer Chain) → ChainAnswer (file_directory len block) a → FileAnswer len block a
    by h (given c) l = record { header = h; linked = l }
    by h (refused f) r = (omega arith, omega arith, r.2, r.3)

pub chain_given : (len : ℕ) (block : Bytes) (table : Table) (c : Chain) → table_chain len block table ≡ given c → FileChain len block c
chain_given len block table c e = subst (FileAnswer len block) e (file_answer len block table)

pub chain_refused : (len : ℕ) (block : Bytes) (table : Table) (f : Fault) → table_chain len block table ≡ refused f
    → (9 ≤ f.number) × (f.number ≤ 11) × (f.value ≡ 0) × (f.entry ≡ 0)
chain_refused len block table f e = subst (FileAnswer len block) e (file_answer len block table)
