-- Rules 5.34, 4.15: what is known of the entries of a page's rows, and of the entry that 14 and 15 carry.
--     entries_each, entries_grow     each is a present one, and they grow; growing_next: from one to the next
--     fault_entry                    the entry of 14 and 15 is present, and its row is not good
use mathlib.Core.Path.{◌≡◌, refl, sym, ap, ◌∙◌}
use mathlib.Core.Bool.{true}
use mathlib.Core.List.{List, [], ◌∷◌, map}
use mathlib.Core.Logic.{◌⊎◌, ⊎_elim}
use Prim.Native.Nat.{ℕ, zero, suc, ◌+◌, ◌<◌, ◌≤◌}
use native.Mathlib.Omega.{arith}
use lib.ListN.{length, get_or, drop}
use Rattle.lists.specs.Alias.{Bytes}
use Rattle.lists.proofs.Choice.{never, cond_holds}
use Rattle.lists.proofs.Each.{Each, each_of}
use Rattle.refusal.specs.declared.Fault.{Fault}
use Rattle.refusal.specs.Fault.{fault}
use Rattle.refusal.specs.Answer.{Answer, given, refused, and_then}
use Rattle.table.specs.declared.Table.{Table}
use Rattle.row.specs.Check.{check_row}
use Rattle.page.specs.Header.{rowless, entries}
use Rattle.page.specs.Index.{present, row_start, present_from}
use Rattle.page.specs.Found.{row_of}
use Rattle.page.specs.Read.{index_good, before_index, row_entries, page_rows, on_row, check_rows, read_page}
use Rattle.page.proofs.PageTests.{by_tests}
use Rattle.page.proofs.PageAnswer.{fault_check}

-- a present entry among so many from j on
pub record Present (page : Bytes) (k j i : ℕ) : Type 0 where
  pub least : j ≤ i
  pub most : i < j + k
  pub there : present page i ≡ true

present_each : (page : Bytes) (k j : ℕ) → Each (Present page k j) (present_from page k j)
unfolding present_from
present_each page zero j = tt
present_each page (suc k) j =
    let rest = each_of (Present page k (j + 1)) (Present page (suc k) j) (present_from page k (j + 1))
    (λ i p. record { least = omega (arith, p.least); most = omega (arith, p.most); there = p.there }) (present_each page k (j + 1)) in
    cond_holds (Each (Present page (suc k) j)) (present page j)
    (λ e. (record { least = omega arith; most = omega arith; there = e }, rest)) (λ _. rest)

-- each is less than those behind it
abbrev pub Growing : List ℕ → Type 0
Growing [] = Unit {0}
Growing (x ∷ xs) = Each (λ (y : ℕ). x < y) xs × Growing xs

present_grow : (page : Bytes) (k j : ℕ) → Growing (present_from page k j)
unfolding present_from
present_grow page zero j = tt
present_grow page (suc k) j =
    let rest = present_grow page k (j + 1) in
    let later = each_of (Present page k (j + 1)) (λ (i : ℕ). j < i) (present_from page k (j + 1)) (λ i p. omega (arith, p.least)) (present_each page k (j + 1)) in
    cond_holds Growing (present page j) (λ _. (later, rest)) (λ _. rest)

pub entries_each : (page : Bytes) → Each (Present page (entries page) 0) (row_entries page)
unfolding row_entries
entries_each page =
    let All = Each (Present page (entries page) 0) in
    cond_holds All (rowless page) (λ _. tt) (λ _. cond_holds All (index_good page) (λ _. present_each page (entries page) 0) (λ _. tt))

pub entries_grow : (page : Bytes) → Growing (row_entries page)
unfolding row_entries
entries_grow page =
    cond_holds Growing (rowless page) (λ _. tt) (λ _. cond_holds Growing (index_good page) (λ _. present_grow page (entries page) 0) (λ _. tt))

pub growing_next : (xs : List ℕ) → Growing xs → (k : ℕ) → suc k < length xs → get_or xs k 0 < get_or xs (suc k) 0
growing_next [] g k h = absurd (omega arith)
growing_next (x ∷ []) g k h = absurd (omega arith)
growing_next (x ∷ y ∷ xs) g zero h = g.0.0
growing_next (x ∷ y ∷ xs) g (suc k) h = growing_next (y ∷ xs) g.1 k (omega arith)

the_fault : {x y : Fault} → ◌≡◌ {A = Answer (Unit {0})} (refused x) (refused y) → x ≡ y
the_fault z = cc

not_good : {x : Fault} {u : Unit {0}} → refused x ≡ given u → ⊥
not_good z = never (cc)

-- the entry that a fault of these entries' rows carries is one of them, and its row is not good
abbrev FaultAmong : (P : ℕ → Type 0) (table : Table) (page before : Bytes) (f : Fault) → Type 0
FaultAmong P table page before f = P f.entry × (check_row table (drop (row_start page f.entry) before) ≡ given tt → ⊥)

first_fault : (P : ℕ → Type 0) (number : ℕ) (table : Table) (page before : Bytes) (f : Fault) (i : ℕ) (rest : Answer (Unit {0})) → P i
    → (rest ≡ refused f → FaultAmong P table page before f)
    → (check : Answer (Unit {0})) → check_row table (drop (row_start page i) before) ≡ check
    → and_then (on_row (row_of number page i) check) (λ _. rest) ≡ refused f → FaultAmong P table page before f
first_fault P number table page before f i rest p later (given tt) c q = later q
first_fault P number table page before f i rest p later (refused g) c q =
    let own : f.entry ≡ i = ap (λ (h : Fault). h.entry) (sym (the_fault q)) in
    (rw own p, λ good. not_good (sym c ∙ rw own at good))

rows_fault : (P : ℕ → Type 0) (number : ℕ) (table : Table) (page before : Bytes) (f : Fault) (some : List ℕ) → Each P some
    → check_rows table before (map (row_of number page) some) ≡ refused f → FaultAmong P table page before f
unfolding check_rows
rows_fault P number table page before f [] each e = never (cc)
rows_fault P number table page before f (i ∷ some) each e =
    first_fault P number table page before f i (check_rows table before (map (row_of number page) some)) each.0
    (λ q. rows_fault P number table page before f some each.1 q) (check_row table (drop (row_start page i) before)) refl e

-- 14 and 15 are those of the rows
page_rows_fault : (number : ℕ) (table : Table) (page : Bytes) (f : Fault) → read_page number table page ≡ refused f → (f.number ≡ 14) ⊎ (f.number ≡ 15)
    → check_rows table (before_index page) (page_rows number page) ≡ refused f
unfolding read_page
page_rows_fault number table page f e k =
    by_tests number table page (λ h. other 12 (λ z. omega arith) (λ z. omega arith) (cc (rw h at e)))
    (λ h t. other 25 (λ z. omega arith) (λ z. omega arith) (cc (rw (h, t) at e))) (λ h t r. never (cc (rw (h, t, r) at e)))
    (λ h t r g. other 13 (λ z. omega arith) (λ z. omega arith) (cc (rw (h, t, r, g) at e)))
    (λ h t r g. fault_check (page_rows number page) f (check_rows table (before_index page) (page_rows number page)) (sym (rw (h, t, r, g) at e)))
  where
    other : {A : Type 0} (n : ℕ) → (n ≡ 14 → ⊥) → (n ≡ 15 → ⊥) → fault n number ≡ f → A
    other n a b q =
        let same : n ≡ f.number = ap (λ (h : Fault). h.number) q in
        absurd (⊎_elim (λ z. a (same ∙ z)) (λ z. b (same ∙ z)) k)

pub fault_entry : (number : ℕ) (table : Table) (page : Bytes) (f : Fault) → read_page number table page ≡ refused f → (f.number ≡ 14) ⊎ (f.number ≡ 15)
    → Present page (entries page) 0 f.entry × (check_row table (drop (row_start page f.entry) (before_index page)) ≡ given tt → ⊥)
fault_entry number table page f e k =
    rows_fault (Present page (entries page) 0) number table page (before_index page) f (row_entries page) (entries_each page) (page_rows_fault number table page f e k)
