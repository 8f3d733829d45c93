-- The chain of a table: page length, number of pages, first and last page, or why it has none. `chain_in` gives it from a directory, `table_chain` from block 0.
-- Rules 3.11 to 3.14. Rests on the directory (specs/Directory) and on `linkable` of crate `format`.
use Rattle.std.specs.Prelude.{cond, not, List, [], ◌∷◌, ℕ, take, eqb}
use Rattle.lists.specs.Alias.{Bytes}
use Rattle.format.specs.Place.{linkable}
use Rattle.refusal.specs.Fault.{fault}
use Rattle.refusal.specs.Answer.{Answer, given, refused, refuse_if, and_then}
use Rattle.table.specs.declared.Table.{Table}
use Rattle.table.specs.Table.{table_number}
use Rattle.directory.specs.declared.Pointer.{Pointer}
use Rattle.directory.specs.declared.Directory.{Directory}
use Rattle.directory.specs.declared.Chain.{Chain}
use Rattle.directory.specs.Header.{header_holds}
use Rattle.directory.specs.Directory.{file_directory}

-- Rule 3.11: the first of these pointers that has type t
unfoldable pub pointer_among : ℕ → List Pointer → Answer Pointer
pointer_among t [] = refused (fault 10 0)
pointer_among t (p ∷ ps) = cond (eqb p.table_type t) (given p) (pointer_among t ps)

-- the chain that a pointer names
abbrev pub chain_at : Directory → Pointer → Chain
chain_at d p =
    record {
      len_page = d.len_page;
      page_count = d.page_count;
      first_page = p.first_page;
      last_page = p.last_page;
    }

-- Rule 3.12: the links of this pointer and of no other (rule 3.13)
abbrev pub linked_chain : Directory → Pointer → Answer Chain
linked_chain d p =
    refuse_if (not (linkable d.page_count p.first_page)) (fault 11 0)
    (refuse_if (not (linkable d.page_count p.last_page)) (fault 11 0)
    (given (chain_at d p)))

-- the chain of a table in a directory
unfoldable pub chain_in : Directory → Table → Answer Chain
chain_in d table = and_then (pointer_among (table_number table) (take d.count d.pointers)) (linked_chain d)

-- Rule 3.14: the chain of a table in a file of len bytes with this block 0
unfoldable pub table_chain : (len : ℕ) (block : Bytes) (table : Table) → Answer Chain
table_chain len block table =
    refuse_if (not (header_holds len block)) (fault 9 0)
    (chain_in (file_directory len block) table)
