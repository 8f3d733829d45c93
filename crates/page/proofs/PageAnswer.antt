-- Rules 4.15, 5.10, 5.33: what the answer of `read_page` says of the page.
--     page_read        read without a fault, its header agrees, its rows are good, and they are what is found
--     page_counted     read without a fault and without flag `40`, it has as many rows as it counts
--     page_refused     its refusals are 12 to 15 and 25, carry the page, and but for 14 and 15 no entry
--     page_many, page_row     how many rows it has then, and row k of them
--     good_check, fault_check     what an answer behind a check says of the check
--     rows_good        where the rows of a page are good, each of them is
use mathlib.Core.Path.{◌≡◌, refl, sym, ap, subst, ◌∙◌}
use mathlib.Core.Bool.{true, false, true≢false, not}
use mathlib.Core.List.{List, [], ◌∷◌, map}
use mathlib.Core.Logic.{◌⊎◌, inl, inr}
use Prim.Native.Nat.{ℕ, ◌<◌, ◌≤◌}
use native.Mathlib.Omega.{arith}
use lib.ListN.{length, drop, get_or, length-map}
use borrow.Author.Tests.{not-false, eqb-true}
use Rattle.lists.specs.Alias.{Bytes}
use Rattle.lists.proofs.Choice.{cond_holds, never}
use Rattle.lists.proofs.Each.{Each}
use Rattle.std.proofs.lemmas.List.{get_or-map}
use Rattle.refusal.specs.declared.Fault.{Fault}
use Rattle.refusal.specs.Answer.{Answer, given, refused, and_then}
use Rattle.table.specs.declared.Table.{Table}
use Rattle.row.specs.Check.{check_row}
use Rattle.row.proofs.RowFaults.{RowFaults, row_faults}
use Rattle.page.specs.declared.Row.{Row}
use Rattle.page.specs.Header.{number_agrees, type_agrees, header_agrees, rowless, entries, num_rows}
use Rattle.page.specs.Index.{present_from}
use Rattle.page.specs.Found.{Rows, row_of, no_row}
use Rattle.page.specs.Read.{count_agrees, index_good, before_index, row_entries, page_rows, on_row, check_rows, read_page}
use Rattle.page.proofs.RowEntries.{good_parts}

-- what is known of a page that is read without a fault
pub record GoodPage (number : ℕ) (table : Table) (page : Bytes) (rows : Rows) : Type 0 where
  pub header : header_agrees number table page ≡ true
  pub index : rowless page ≡ false → index_good page ≡ true
  pub good : check_rows table (before_index page) (page_rows number page) ≡ given tt
  pub found : rows ≡ page_rows number page

-- what is known of its fault
abbrev pub PageFault : (number : ℕ) (f : Fault) → Type 0
PageFault number f =
    (((12 ≤ f.number) × (f.number ≤ 15)) ⊎ (f.number ≡ 25)) × (f.value ≡ number) × ((f.entry ≡ 0) ⊎ (14 ≤ f.number) × (f.number ≤ 15))

abbrev PageAnswer : (number : ℕ) (table : Table) (page : Bytes) (answer : Answer Rows) → Type 0
PageAnswer number table page (given rows) = GoodPage number table page rows
PageAnswer number table page (refused f) = PageFault number f

-- a row's fault is 14 or 15 and carries the page
abbrev RowFaultOn : (number : ℕ) (answer : Answer (Unit {0})) → Type 0
RowFaultOn number (given u) = Unit {0}
RowFaultOn number (refused f) = (14 ≤ f.number) × (f.number ≤ 15) × (f.value ≡ number)

on_row_fault : (row : Row) (check : Answer (Unit {0})) → RowFaults check → RowFaultOn row.page (on_row row check)
on_row_fault row (given u) c = tt
on_row_fault row (refused f) c = (c.0, c.1, refl)

check_then : (number : ℕ) (check rest : Answer (Unit {0})) → RowFaultOn number check → RowFaultOn number rest → RowFaultOn number (and_then check (λ _. rest))
check_then number (given u) rest c r = r
check_then number (refused f) rest c r = c

rows_faults : (number : ℕ) (table : Table) (page before : Bytes) (some : List ℕ) → RowFaultOn number (check_rows table before (map (row_of number page) some))
unfolding check_rows
rows_faults number table page before [] = tt
rows_faults number table page before (i ∷ some) =
    let row = row_of number page i in
    let check = check_row table (drop row.start before) in
    check_then number (on_row row check) (check_rows table before (map (row_of number page) some))
    (on_row_fault row check (row_faults table (drop row.start before))) (rows_faults number table page before some)

then_answer : (number : ℕ) (table : Table) (page : Bytes) (check : Answer (Unit {0})) → header_agrees number table page ≡ true → index_good page ≡ true
    → check_rows table (before_index page) (page_rows number page) ≡ check → RowFaultOn number check
    → PageAnswer number table page (and_then check (λ _. given (page_rows number page)))
then_answer number table page (given tt) h g e f = record { header = h; index = λ _. g; good = e; found = refl }
then_answer number table page (refused fault) h g e f = (inl (omega arith, f.1), f.2, inr (f.0, f.1))

none_good : (number : ℕ) (table : Table) (page : Bytes) → header_agrees number table page ≡ true → rowless page ≡ true → GoodPage number table page []
unfolding row_entries check_rows
none_good number table page h r =
    record { header = h; index = λ f. absurd (true≢false (sym r ∙ f)); good = rw r; found = rw r }

page_answer : (number : ℕ) (table : Table) (page : Bytes) → PageAnswer number table page (read_page number table page)
unfolding read_page
page_answer number table page =
    let Answered = PageAnswer number table page in
    let check = check_rows table (before_index page) (page_rows number page) in
    cond_holds Answered (not (number_agrees number page)) (λ _. (inl (omega arith, omega arith), refl, inl refl))
    (λ a. cond_holds Answered (not (type_agrees table page)) (λ _. (inr refl, refl, inl refl))
    (λ b. let agrees : header_agrees number table page ≡ true = rw (not-false (number_agrees number page) a, not-false (type_agrees table page) b) in
    cond_holds Answered (rowless page) (λ r. none_good number table page agrees r)
    (λ _. cond_holds Answered (not (index_good page)) (λ _. (inl (omega arith, omega arith), refl, inl refl))
    (λ g. then_answer number table page check agrees (not-false (index_good page) g) refl
    (rows_faults number table page (before_index page) (row_entries page))))))

pub page_read : (number : ℕ) (table : Table) (page : Bytes) (rows : Rows) → read_page number table page ≡ given rows → GoodPage number table page rows
page_read number table page rows e = subst (PageAnswer number table page) e (page_answer number table page)

pub page_refused : (number : ℕ) (table : Table) (page : Bytes) (f : Fault) → read_page number table page ≡ refused f → PageFault number f
page_refused number table page f e = subst (PageAnswer number table page) e (page_answer number table page)

-- the rows of a page that is read, by its present entries
module _ (number : ℕ) (table : Table) (page : Bytes) (rows : Rows) (e : read_page number table page ≡ given rows) where
  pub page_many : length rows ≡ length (row_entries page)
  page_many = ap length (page_read number table page rows e).found ∙ length-map (row_entries page) (row_of number page)

  pub page_row : (k : ℕ) → k < length rows → get_or rows k no_row ≡ row_of number page (get_or (row_entries page) k 0)
  page_row k h =
      ap (λ (l : Rows). get_or l k no_row) (page_read number table page rows e).found
      ∙ get_or-map (row_of number page) (row_entries page) k 0 no_row (omega (arith, page_many))

-- a page read has as many rows as it counts, but for one with flag `40`
pub page_counted : (number : ℕ) (table : Table) (page : Bytes) (rows : Rows) → read_page number table page ≡ given rows → rowless page ≡ false
    → length rows ≡ num_rows page
unfolding row_entries count_agrees
page_counted number table page rows e r =
    let g = (page_read number table page rows e).index r in
    let some = present_from page (entries page) 0 in
    page_many number table page rows e ∙ rw (r, g) (eqb-true (length some) (num_rows page) (good_parts page g).1)

-- what follows a check is given exactly where the check is good, and a fault is the check's
pub good_check : {A : Type 0} (x other : A) (check : Answer (Unit {0})) → given other ≡ and_then check (λ _. given x) → (check ≡ given tt) × (other ≡ x)
good_check x other (given tt) e = (refl, cc)
good_check x other (refused f) e = never (cc)

pub fault_check : {A : Type 0} (x : A) (f : Fault) (check : Answer (Unit {0})) → refused f ≡ and_then check (λ _. given x) → check ≡ refused f
fault_check x f (given tt) e = never (cc)
fault_check x f (refused g) e = cc

first_good : (check rest : Answer (Unit {0})) → and_then check (λ _. rest) ≡ given tt → (check ≡ given tt) × (rest ≡ given tt)
first_good (given tt) rest e = (refl, e)
first_good (refused f) rest e = never (cc)

-- a row that was found is good where its bytes are
pub found_good : (row : Row) (check : Answer (Unit {0})) → on_row row check ≡ given tt → check ≡ given tt
found_good row (given tt) e = refl
found_good row (refused f) e = never (cc)

pub rows_good : (table : Table) (before : Bytes) (rows : Rows) → check_rows table before rows ≡ given tt
    → Each (λ (row : Row). check_row table (drop row.start before) ≡ given tt) rows
unfolding check_rows
rows_good table before [] e = tt
rows_good table before (row ∷ rows) e =
    let check = check_row table (drop row.start before) in
    let both = first_good (on_row row check) (check_rows table before rows) e in
    (found_good row check both.0, rows_good table before rows both.1)
