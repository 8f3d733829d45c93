-- What a header that is not broken says of its numbers, which the chain and the code rest on: rules 3.5 and 3.6.
use mathlib.Core.Path.{◌≡◌}
use mathlib.Core.Bool.{true, not, ◌&&◌}
use Prim.Native.Nat.{ℕ, ◌%◌, ◌≤◌}
use lib.Dec.{leb, eqb}
use borrow.Author.Tests.{leb-true, eqb-true}
use Rattle.lists.specs.Alias.{Bytes}
use Rattle.format.specs.Size.{block_size}
use Rattle.directory.specs.Header.{zeros, len_page, num_tables, allowed_page, allowed_tables, type_twice, tables_hold, header_holds}
use Rattle.lists.proofs.Choice.{both_true}

pub record GoodHeader (len : ℕ) (block : Bytes) : Type 0 where
  pub least : block_size ≤ len_page block
  pub most : len_page block ≤ 32_768
  pub whole : len_page block % block_size ≡ 0
  pub some : 1 ≤ num_tables block
  pub few : num_tables block ≤ 30

pub good_header : (len : ℕ) (block : Bytes) → header_holds len block ≡ true → GoodHeader len block
unfolding header_holds allowed_page tables_hold allowed_tables
good_header len block e =
    let size = len_page block in
    let n = num_tables block in
    let rest = (both_true (eqb (zeros block) 0) (allowed_page len size && tables_hold block n) e).1 in
    let parts = both_true (allowed_page len size) (tables_hold block n) rest in
    let page = both_true (leb block_size size) (leb size 32_768 && (eqb (size % block_size) 0 && eqb (len % size) 0)) parts.0 in
    let page₂ = both_true (leb size 32_768) (eqb (size % block_size) 0 && eqb (len % size) 0) page.1 in
    let page₃ = both_true (eqb (size % block_size) 0) (eqb (len % size) 0) page₂.1 in
    let tables = both_true (leb 1 n && leb n 30) (not (type_twice block n)) parts.1 in
    let counts = both_true (leb 1 n) (leb n 30) tables.0 in
    record {
      least = leb-true block_size size page.0;
      most = leb-true size 32_768 page₂.0;
      whole = eqb-true (size % block_size) 0 page₃.0;
      some = leb-true 1 n counts.0;
      few = leb-true n 30 counts.1;
    }
