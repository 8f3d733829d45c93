-- What block 0 tells (specs/Layout), by the tests of the code. Rules 3.15 and 3.16.
--     once_told                                      the answer goes by what is told of block 0, once it is held
--     bounds_broken, bounds_refused, bounds_read     the header is broken; the table's chain is refused; it is given
use mathlib.Core.Path.{◌≡◌, refl}
use Prim.Native.Nat.{ℕ}
use Rattle.std.specs.Prelude.{Option, Result, Ok, Err}
use Rattle.std.specs.Option.{ok_or}
use Rattle.lists.specs.Alias.{Bytes}
use Rattle.refusal.specs.declared.Fault.{Fault}
use Rattle.refusal.specs.declared.Refusal.{Refusal}
use Rattle.refusal.specs.declared.Refusal.TheVariants.{FileHeader}
use Rattle.refusal.specs.Fault.{fault_of}
use Rattle.refusal.specs.Answer.{Answer, given, refused, and_then, answer_of, answer_as}
use Rattle.table.specs.declared.Table.{Table}
use Rattle.bitmap.specs.Bit.{bit}
use Rattle.intake.specs.Memory.{Memory, block_at}
use Rattle.directory.specs.declared.Chain.{Chain}
use Rattle.directory.specs.declared.Directory.{Directory}
use Rattle.directory.specs.Header.{header_holds}
use Rattle.directory.specs.Directory.{file_directory, read_header}
use Rattle.directory.specs.Chain.{chain_in, table_chain}
use Rattle.chain.specs.declared.Reply.{Reply}
use Rattle.chain.specs.Found.{found, reply_of}
use Rattle.export.specs.Layout.{bounds_in, bounds_of, once_held}
use Rattle.export.specs.Private.{found_result, OnceHeld}
use Rattle.lists.proofs.Choice.{on, never}

found_answer : {A : Type 0} (answer : Result A Refusal)
    → answer_as (reply_of (λ (x : A). x)) (found_result answer) ≡ and_then (answer_of answer) (λ (x : A). given (found x))
found_answer (Ok x) = refl
found_answer (Err refusal) = refl

pub once_told : {A : Type 0} (m : Memory) (told : Bytes → Answer A) (tells : Result A Refusal → Type 0) (r : Result (Reply A) Refusal) → OnceHeld m tells r
    → ((answer : Result A Refusal) → tells answer → answer_of answer ≡ told (block_at m.image 0))
    → answer_as (reply_of (λ (x : A). x)) r ≡ once_held m told
once_told m told tells r h each =
    on (bit m.map 0)
    (λ b. let held = rw b at h in rw (b, held.2, ← each held.0 held.1) (found_answer held.0))
    (λ b. let missing = rw b at h in rw (b, missing))

module _ (len : ℕ) (block : Bytes) (table : Table) {read : Option Directory} (e : read ≡ read_header len block) where
  pub bounds_broken : {refusal : Refusal} → ok_or read FileHeader ≡ Err refusal → refused (fault_of refusal) ≡ bounds_in len block table
  unfolding read_header table_chain
  bounds_broken {refusal} f =
      on (header_holds len block)
      (λ h. never (let z = rw (e, h) at f in cc))
      (λ h. let same : refusal ≡ FileHeader = (let z = rw (e, h) at f in cc) in rw (h, same))

  -- the chain that the header's directory gives is that of the file
  module _ {d : Directory} (ok : ok_or read FileHeader ≡ Ok d) where
    chain_same : chain_in d table ≡ table_chain len block table
    unfolding read_header table_chain
    chain_same =
        on (header_holds len block)
        (λ h. let same : d ≡ file_directory len block = (let z = rw (e, h) at ok in cc) in rw (h, same))
        (λ h. never (let z = rw (e, h) at ok in cc))

    pub bounds_refused : {f : Fault} → refused f ≡ chain_in d table → refused f ≡ bounds_in len block table
    bounds_refused q = rw (← chain_same, ← q)

    pub bounds_read : {c : Chain} → given c ≡ chain_in d table → given (bounds_of c) ≡ bounds_in len block table
    bounds_read q = rw (← chain_same, ← q)
