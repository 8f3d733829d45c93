-- What `walk_table` answers before and after the header is read (rules 3.2, 3.3 and 3.14), with the directory that it went by.
--     start_missing, start_broken, start_ready     block 0 is not held; its header is broken; it is not
use mathlib.Core.Path.{◌≡◌, ◌∙◌}
use mathlib.Core.Bool.{true, false}
use Prim.Native.Nat.{ℕ}
use Rattle.std.specs.Prelude.{Option, Some, None}
use Rattle.refusal.specs.Fault.{fault}
use Rattle.refusal.specs.Answer.{given, refused}
use Rattle.table.specs.declared.Table.{Table}
use Rattle.bitmap.specs.Bit.{bit}
use Rattle.intake.specs.Memory.{Memory, block_at}
use Rattle.directory.specs.declared.Directory.{Directory}
use Rattle.directory.specs.Header.{header_holds}
use Rattle.directory.specs.Directory.{file_directory, no_directory, read_header}
use Rattle.directory.specs.Chain.{chain_in, table_chain}
use Rattle.chain.specs.Walk.{Walk, waiting}
use Rattle.chain.specs.Tally.{tally}
use Rattle.chain.specs.Chain.{chain_walk}
use Rattle.table_walk.specs.Walk.{table_walk, walk_directory}
use Rattle.lists.proofs.Choice.{on, never}

module _ (len : ℕ) (m : Memory) (table : Table) where
  pub start_missing : {d : Directory} → bit m.map 0 ≡ false → d ≡ no_directory
      → (given (waiting 0 0 0) ≡ tally (table_walk len m table)) × (d ≡ walk_directory len m)
  unfolding table_walk walk_directory
  start_missing b d = (rw b, d ∙ rw b)

  module _ {read : Option Directory} (b : bit m.map 0 ≡ true) (e : read ≡ read_header len (block_at m.image 0)) where
    pub start_broken : {d : Directory} → read ≡ None → d ≡ no_directory
        → (refused (fault 9 0) ≡ tally (table_walk len m table)) × (d ≡ walk_directory len m)
    unfolding table_walk walk_directory read_header table_chain
    start_broken f d =
        on (header_holds len (block_at m.image 0)) (λ h. never (let z = rw h at e in cc)) (λ h. (rw (b, h), d ∙ rw (b, h)))

    pub start_ready : {d : Directory} → read ≡ Some d → {w : Walk ℕ} → w ≡ tally (chain_walk table m.image m.map (chain_in d table))
        → (w ≡ tally (table_walk len m table)) × (d ≡ walk_directory len m)
    unfolding table_walk walk_directory read_header table_chain
    start_ready {d} f q =
        on (header_holds len (block_at m.image 0))
        (λ h. let known : d ≡ file_directory len (block_at m.image 0) = (let z = rw h at e in cc) in (q ∙ rw (b, h, known), known ∙ rw (b, h)))
        (λ h. never (let z = rw h at e in cc))
