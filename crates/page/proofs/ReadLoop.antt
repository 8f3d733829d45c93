-- The loop of `read_rows`: the rows of the entries before i are good, and the whole answer is that of the entries left. Rule 5.10.
--     begin           before the first entry
--     absent, good    after an entry that is absent, or whose row is good
--     fault           an entry whose row is refused
--     end             after the last entry
use mathlib.Core.Path.{◌≡◌, sym, ◌∙◌}
use mathlib.Core.Bool.{true, false}
use Prim.Native.Nat.{ℕ, suc, ◌+◌, ◌-◌, ◌<◌, ◌≤◌}
use native.Mathlib.Nat.{sub-zero}
use native.Mathlib.Omega.{arith}
use lib.ListN.{length}
use Rattle.std.specs.Prelude.{Result, Ok, Err}
use Rattle.lists.specs.Alias.{Bytes}
use Rattle.refusal.specs.declared.Refusal.{Refusal}
use Rattle.refusal.specs.Fault.{fault_of}
use Rattle.refusal.specs.Answer.{Answer, given, refused, and_then, answer_of}
use Rattle.table.specs.declared.Table.{Table}
use Rattle.page.specs.declared.Row.{Row}
use Rattle.page.specs.Index.{present}
use Rattle.page.specs.Found.{Rows, row_of}
use Rattle.page.specs.Read.{check_found, judged, check_rows}
use Rattle.page.specs.Private.{rows_from, checked_count}
use Rattle.page.proofs.PageAnswer.{good_check, fault_check}
use Rattle.page.proofs.EntriesInside.{entry_absent, entry_present, entry_none}

-- what these rows answer, with so many found before
pub count_from : (table : Table) (before : Bytes) (found : ℕ) (rows : Rows) → Answer ℕ
count_from table before found rows = and_then (check_rows table before rows) (λ _. given (found + length rows))

pub record Reading (number : ℕ) (table : Table) (page before : Bytes) (n i found : ℕ) : Type 0 where
  pub entry : i ≤ n
  pub few : found ≤ i
  pub rest : checked_count table before (rows_from number page n 0) ≡ count_from table before found (rows_from number page (n - i) i)

pub begin : (number : ℕ) (table : Table) (page before : Bytes) (n : ℕ) → Reading number table page before n 0 0
unfolding count_from checked_count
begin number table page before n =
    let z : 0 + length (rows_from number page n 0) ≡ length (rows_from number page n 0) = omega arith in
    record { entry = omega arith; few = omega arith; rest = rw (sub-zero n, z) }

module _ {number : ℕ} {table : Table} {page before : Bytes} {n i found : ℕ} (r : Reading number table page before n i found) where
  pub end : n ≤ i → given found ≡ checked_count table before (rows_from number page n 0)
  unfolding count_from check_rows
  end h = let z : found + 0 ≡ found = omega arith in sym (r.rest ∙ rw (entry_none page n i h, z))

  pub absent : i < n → present page i ≡ false → Reading number table page before n (i + 1) found
  absent h e = record { entry = omega arith; few = omega arith; rest = rw (entry_absent page h e) at r.rest }

  module _ {row : Row} (h : i < n) (p : present page i ≡ true) (s : row ≡ row_of number page i) where
    later : Rows
    later = rows_from number page (n - (i + 1)) (i + 1)

    turn : {check : Answer (Unit {0})} → check_found table before (row_of number page i) ≡ check
        → checked_count table before (rows_from number page n 0)
        ≡ and_then (and_then check (λ _. check_rows table before later)) (λ _. given (found + suc (length later)))
    unfolding count_from check_rows later
    turn k = r.rest ∙ rw (entry_present page h p, k)

    pub good : {told : Result Row Refusal} {other : Row} → told ≡ Ok other → answer_of told ≡ judged table before row
        → Reading number table page before n (i + 1) (found + 1)
    unfolding count_from later
    good {other = other} e k =
        let check = (good_check row other (check_found table before row) (rw e at k)).0 in
        let own : check_found table before (row_of number page i) ≡ given tt = rw s at check in
        let z : found + suc (length later) ≡ found + 1 + length later = omega arith in
        record { entry = omega arith; few = omega arith; rest = turn own ∙ rw z }

    pub fault : {told : Result Row Refusal} {refusal : Refusal} → told ≡ Err refusal → answer_of told ≡ judged table before row
        → refused (fault_of refusal) ≡ checked_count table before (rows_from number page n 0)
    fault {refusal = refusal} e k =
        let check = fault_check row (fault_of refusal) (check_found table before row) (rw e at k) in
        sym (turn (rw s at check))
