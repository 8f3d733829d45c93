-- `chain::walk_chain` meets its contract, by the loop's invariant `Going` (proofs/WalkLoop): each way out is one of its laws.
use mathlib.Core.Path.{◌≡◌, sym, ◌∙◌}
use mathlib.Core.Bool.{Bool, true, false, ◌||◌}
use mathlib.Core.Logic.{inl, inr}
use Prim.Native.Nat.{ℕ, ◌+◌, ◌<◌, ◌≤◌, ◌^◌}
use native.Mathlib.Omega.{arith}
use lib.Dec.{eqb, leb}
use borrow.Author.Tests.{eq-eqb, ne_eqb}
use Rattle.std.proofs.lemmas.Result.{err_from_is_err_and}
use Rattle.lists.specs.Alias.{Bytes}
use Rattle.format.specs.Place.{linkable}
use Rattle.refusal.specs.declared.Refusal.{Refusal}
use Rattle.refusal.specs.Answer.{given, answer_of}
use Rattle.table.specs.declared.Table.{Table}
use Rattle.std.specs.Prelude.{Result, Ok}
use Rattle.page.specs.Read.{read_page, row_count}
use Rattle.chain.specs.Walk.{Pages}
use Rattle.chain.specs.File.{page_part}
use Rattle.chain.proofs.WalkLoop.{Going, OnPage, most, begin, outside, stopped, going_on, rows_room, missing, faulty, at_last, onward}
use Rattle.chain.proofs.PagePart.{part_next}
use Rattle.chain.proofs.PageRead.{read_given, read_refused, found_low}
use Rattle.chain.proofs.walk_chain.Goals as goal
use Rattle.chain.proofs.walk_chain.Goals.{then-pages-eq1, else-pages-eq1}

-- the page is held, and is about to be read
turn : {pages : Pages} {first rows n mark holder page : ℕ} {link again held : Bool} → Going pages first rows n mark holder page
    → link ≡ linkable pages.page_count page → link ≡ true → again ≡ (eqb page mark || leb (most pages.page_count) (n + 1)) → again ≡ false
    → held ≡ pages.held page → held ≡ true → OnPage pages first rows n mark holder page
turn going l t a f h k = record { going = going; inside = sym l ∙ t; held = sym h ∙ k; left = going_on going a f }

-- the page's rows, and that they are few
count : {page : Bytes} {read : Result ℕ Refusal} {found : ℕ} (size : ℕ) (image : Bytes) (number : ℕ) (table : Table) → size < 2 ^ 32
    → page ≡ page_part size image number → answer_of read ≡ row_count (read_page number table page) → read ≡ Ok found
    → (given found ≡ row_count (read_page number table (page_part size image number))) × (found ≤ 0xffff_ffff)
count {found = found} size image number table s p r k =
    let e = read_given size image number table p r k in
    (e, omega (arith, found_low size image number table found e))

pub loop-chain-init : goal.loop-chain-init
loop-chain-init c = begin _ _ (omega arith)

pub returns-then-is_again : goal.returns-then-is_again
returns-then-is_again c = stopped c.loop-chain.invariant (sym c.linkable.ensures ∙ c.loop-chain-test.true) c.is_again.ensures c.if-is_again.true

pub returns-then-not-is_held : goal.returns-then-not-is_held
returns-then-not-is_held c =
    let inside = sym c.linkable.ensures ∙ c.loop-chain-test.true in
    missing c.loop-chain.invariant inside (sym c.is_held.ensures ∙ c.if-not-is_held.true)

pub returns-in_err-rows : goal.returns-in_err-rows
returns-in_err-rows c =
    let passed = err_from_is_err_and c.from_residual.result c.from_residual.ensures.1 in
    let here = turn c.loop-chain.invariant c.linkable.ensures c.loop-chain-test.true c.is_again.ensures c.if-is_again.false c.is_held.ensures c.if-not-is_held.false in
    rw (passed.1, passed.2) (faulty here.going here.inside here.held _ (read_refused _ _ _ _ c.part-bytes.ensures c.read.ensures c.in_err-rows.was))

pub overflow_add-rows : goal.overflow_add-rows
overflow_add-rows c =
    let here = turn c.loop-chain.invariant c.linkable.ensures c.loop-chain-test.true c.is_again.ensures c.if-is_again.false c.is_held.ensures c.if-not-is_held.false in
    record { fits = rows_room here.going here.left (count c.args.chain.len_page c.args.memory.image.now c.loop-chain.page c.args.table (omega arith) c.part-bytes.ensures c.read.ensures c.in_ok-rows.was).1 }

pub returns-then-page-chain : goal.returns-then-page-chain
returns-then-page-chain c =
    let here = turn c.loop-chain.invariant c.linkable.ensures c.loop-chain-test.true c.is_again.ensures c.if-is_again.false c.is_held.ensures c.if-not-is_held.false in
    at_last here.going here.inside here.held (count c.args.chain.len_page c.args.memory.image.now c.loop-chain.page c.args.table (omega arith) c.part-bytes.ensures c.read.ensures c.in_ok-rows.was).0 (eq-eqb _ _ c.if-page-chain.true)

pub loop-chain-preserved : goal.loop-chain-preserved
loop-chain-preserved c =
    let here = turn c.loop-chain.invariant c.linkable.ensures c.loop-chain-test.true c.is_again.ensures c.if-is_again.false c.is_held.ensures c.if-not-is_held.false in
    let found = count c.args.chain.len_page c.args.memory.image.now c.loop-chain.page c.args.table (omega arith) c.part-bytes.ensures c.read.ensures c.in_ok-rows.was in
    let next = part_next _ _ _ c.part-bytes.ensures c.next-page.ensures in
    onward here.going here.inside here.held found.0 (omega arith) here.left found.1 (ne_eqb _ _ c.if-page-chain.false) next
    (elim c.if-pages-eq1.branch [ then-pages-eq1 w ↦ inr w.mark-is | else-pages-eq1 w ↦ inl w.mark-is ])

pub returns : goal.returns
returns c = outside c.loop-chain.invariant (sym c.linkable.ensures ∙ c.loop-chain-test.false)
