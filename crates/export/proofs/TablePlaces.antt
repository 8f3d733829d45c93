-- In a file whose call is not refused by 1 to 4, the rows on a table's chain are those that its walk found, and the places written are theirs: rule 4.10.
--     table_placed     over the directory that the walk went by
--     table_rows       so the list that they are written to is that of `settle_rows`
--     table_row        and row k is found where it is counted; its directory's page length is block 0's
-- Rests on the chain's law `chain_placed`.
use mathlib.Core.Path.{◌≡◌, refl, ap, ◌∙◌}
use mathlib.Core.Bool.{true, ◌&&◌}
use mathlib.Core.List.{[]}
use Prim.Native.Nat.{ℕ, ◌*◌, ◌/◌, ◌%◌, ◌<◌, ◌≤◌}
use native.Mathlib.Nat.{div-add-mod'}
use native.Mathlib.Omega.{arith}
use lib.ListN.{length}
use lib.Dec.{eqb, leb}
use borrow.Author.Tests.{leb-true}
use Rattle.lists.specs.Alias.{Bytes, Places}
use Rattle.lists.specs.Nth.{nth}
use Rattle.lists.specs.Write.{written}
use Rattle.format.specs.Size.{block_size}
use Rattle.refusal.specs.Answer.{Answer, given, refused}
use Rattle.table.specs.declared.Table.{Table}
use Rattle.bitmap.specs.Bit.{bit}
use Rattle.intake.specs.Length.{longest, allowed_length}
use Rattle.intake.specs.Sound.{Sound}
use Rattle.intake.specs.Memory.{Memory, block_at}
use Rattle.directory.specs.declared.Directory.{Directory}
use Rattle.directory.specs.declared.Chain.{Chain}
use Rattle.directory.specs.Header.{len_page, header_holds}
use Rattle.directory.specs.Directory.{file_directory, no_directory, read_header}
use Rattle.directory.specs.Chain.{chain_in, table_chain}
use Rattle.chain.specs.Walk.{Progress, waiting}
use Rattle.chain.specs.Tally.{rows_counted, pages_counted, tally}
use Rattle.chain.specs.Along.{rows_along}
use Rattle.page.specs.Found.{Rows, no_row}
use Rattle.chain.specs.Chain.{chain_rows, chain_places}
use Rattle.table_walk.specs.Walk.{page_size, table_walk, walk_directory}
use Rattle.export.specs.Rows.{rows_outcome, settle_rows}
use Rattle.export.specs.Row.{settle_row}
use Rattle.chain.specs.Found.{Found}
use Rattle.export.specs.declared.SizedRow.{SizedRow}
use Rattle.export.specs.Private.{row_at, at_row}
use Rattle.lists.proofs.Choice.{on, never, both_true}
use Rattle.intake.proofs.RulesPassed.{sound_accepted}
use Rattle.directory.proofs.ChainAnswer.{FileChain, chain_given}
use Rattle.chain.proofs.ChainPlaces.{AllowedFile, Placed, chain_placed}
use Rattle.export.proofs.RowsAnswer.{rows_long}
use Rattle.export.proofs.RowAnswer.{row_found}

allowed_short : (len : ℕ) → allowed_length len ≡ true → len ≤ longest
unfolding allowed_length
allowed_short len e =
    let rest = (both_true (eqb (len % block_size) 0) (leb block_size len && leb len longest) e).1 in
    leb-true len longest (both_true (leb block_size len) (leb len longest) rest).1

no_rows : (image : Bytes) (chain : Answer Chain) → (chain_rows image 0 chain ≡ []) × (chain_places image 0 chain ≡ [])
unfolding rows_along
no_rows image (given c) = (refl, refl)
no_rows image (refused f) = (refl, refl)

module _ (len : ℕ) (m : Memory) (table : Table) where
  pub allowed_file : Sound len m → (c : Chain) → FileChain len (block_at m.image 0) c → AllowedFile c m.image
  allowed_file ok c f =
      let a = sound_accepted len m ok in
      let size = len_page (block_at m.image 0) in
      let whole : len / size * size ≤ len = omega (arith, div-add-mod' len size) in
      let pages : c.page_count * c.len_page ≤ len = rw (f.linked.len_page, f.linked.page_count) whole in
      record { inside = omega (arith, pages, a.image_long); short = omega (arith, pages, allowed_short len a.allowed) }

  pub table_placed : Sound len m
      → Placed (page_size m) (λ (pages : ℕ). chain_rows m.image pages (chain_in (walk_directory len m) table))
      (λ (pages : ℕ). chain_places m.image pages (chain_in (walk_directory len m) table)) (table_walk len m table)
  unfolding table_walk walk_directory read_header table_chain
  table_placed ok =
      let block = block_at m.image 0 in
      on (bit m.map 0)
      (λ b. on (header_holds len block)
      (λ h. rw (b, h) (chain_placed (page_size m) table m.image m.map (chain_in (file_directory len block) table)
      (λ c e. let known = chain_given len block table c (rw h e) in (allowed_file ok c known, known.linked.len_page))))
      (λ h. rw (b, h) tt))
      (λ b. rw b (no_rows m.image (chain_in no_directory table)))

  row_size : {progress : Progress ℕ} (k : ℕ) → given progress ≡ tally (table_walk len m table) → k < rows_counted progress
      → (walk_directory len m).len_page ≡ page_size m
  unfolding table_walk walk_directory read_header table_chain
  row_size {progress} k e l =
      on (bit m.map 0)
      (λ b. on (header_holds len (block_at m.image 0)) (λ h. rw (b, h) refl) (λ h. never (cc (rw (b, h) at e))))
      (λ b. let none : progress ≡ waiting 0 0 0 = cc (rw b at e) in absurd (omega (arith, rw none at l)))

  module _ (ok : Sound len m) {d : Directory} (e : d ≡ walk_directory len m) {progress : Progress ℕ}
      (w : given progress ≡ tally (table_walk len m table)) where
    abbrev places_of : ℕ → Places
    places_of pages = chain_places m.image pages (chain_in (walk_directory len m) table)

    abbrev rows_of : ℕ → Rows
    rows_of pages = chain_rows m.image pages (chain_in (walk_directory len m) table)

    pub table_rows : (list : Places) {after : Places} → rows_counted progress ≤ length list
        → after ≡ written list (chain_places m.image (pages_counted progress) (chain_in d table))
        → rows_outcome (given progress) after ≡ settle_rows (page_size m) list (table_walk len m table)
    table_rows list h a = rows_long (page_size m) list rows_of places_of (table_walk len m table) w h (table_placed ok) (rw e at a)

    pub table_row : (k : ℕ) {r : Answer (Found SizedRow)} → k < rows_counted progress
        → r ≡ at_row d.len_page (nth no_row (chain_rows m.image (pages_counted progress) (chain_in d table)) k 0)
        → r ≡ settle_row (row_at (page_size m)) k (table_walk len m table)
    table_row k h a =
        rw e at a
        ∙ ap (λ (size : ℕ). at_row size (nth no_row (rows_of (pages_counted progress)) k 0)) (row_size k w h)
        ∙ row_found (page_size m) k rows_of places_of (table_walk len m table) w h (table_placed ok)
