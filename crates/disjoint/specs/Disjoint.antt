-- Rule 4.20: tables never share a page, one statement about every state (`EveryState`); and rule 8.18, the same over runs (`EveryRunDisjoint`).
-- Where block 0 is not held, or the header is broken (9), there is no P, and no page is walked; so it needs no premise about either.
use Rattle.std.specs.Prelude.{◌≡◌, true, ◌&&◌, List, map, ℕ, ◌-◌, ◌/◌, ◌<◌, ◌≤◌, length, get_or}
use Rattle.std.proofs.Math.Option.{some}
use Rattle.lists.specs.Member.{is_member}
use Rattle.lists.specs.Distinct.{Distinct}
use Rattle.refusal.specs.Answer.{Answer, given}
use Rattle.table.specs.declared.Table.{Table}
use Rattle.table.specs.Table.{table_number, table_of}
use Rattle.page.specs.Found.{Rows, no_row}
use Rattle.page.specs.Read.{read_page}
use Rattle.intake.specs.Memory.{Memory}
use Rattle.chain.specs.Begins.{Begins}
use Rattle.chain.specs.Walk.{Walk}
use Rattle.chain.specs.File.{page_part}
use Rattle.chain.specs.Reads.{is_given}
use Rattle.table_walk.specs.Walk.{page_size, table_walk}
use Rattle.table_walk.specs.Reads.{table_reads}
use Rattle.export.specs.Rows.{rows_found}
use Rattle.run.specs.Call.{Question, Call, answer}
use Rattle.run.specs.Refusal.{table_asked}
use Rattle.run.specs.Run.{Opens, run_memory}
use Rattle.disjoint.specs.Pages.{pages_walked}
use Rattle.disjoint.specs.Carried.{pages_in_walk, pages_in_reply, total}

-- a walk for each table, and the pages that it walked, in a file of so many pages
pub record Disjoint (walk : Table → Walk Rows) (pages : Table → List ℕ) (page_count : ℕ) : Type 0 where
  -- the number that a walk carries is how many pages it walked
  pub counted : (table : Table) (n : ℕ) → pages_in_walk (walk table) ≡ some n → n ≡ length (pages table)
  -- the pages of one walk are all different
  pub different : (table : Table) → Distinct (pages table)
  -- no page is walked for two tables
  pub apart : (a b : Table) (page : ℕ) → is_member page (pages a) ≡ true → is_member page (pages b) ≡ true → a ≡ b
  -- each row that a walk finds is on one of its pages
  pub rows : (table : Table) (k : ℕ) → k < length (rows_found (walk table)) → is_member (get_or (rows_found (walk table)) k no_row).page (pages table) ≡ true
  -- the numbers that walks for different tables carry add up to at most P-1; a refused walk carries none
  pub sum : (tables : List Table) → Distinct (map table_number tables) → total (map (λ (t : Table). pages_in_walk (walk t)) tables) ≤ page_count - 1

-- what reading a page gives, for a table
abbrev pub read_page_in : (m : Memory) (t : Table) (page : ℕ) → Answer Rows
read_page_in m t page = read_page page t (page_part (page_size m) m.image page)

-- the walks for the ten tables, and the three questions on them; `state n` is the memory in which table n is asked for
pub record TablesDisjoint (len : ℕ) (state : (table : ℕ) → Memory) (page_count : ℕ) : Type 0 where
  -- a page is walked for a table exactly when its walk reads the page (rule 7.3) without a fault
  pub read : (t : Table) (page : ℕ) → is_member page (pages_walked len (state (table_number t)) t)
      ≡ (table_reads len (state (table_number t)) t page && is_given (read_page_in (state (table_number t)) t page))
  pub walks : Disjoint (λ (t : Table). table_walk len (state (table_number t)) t) (λ (t : Table). pages_walked len (state (table_number t)) t) page_count
  -- the number that an answer carries is how many pages were walked for the table asked for
  pub counted : (q : Question) (n : ℕ) → pages_in_reply (answer len (state (table_asked q)) q) ≡ some n
      → (table : Table) × (table_of (table_asked q) ≡ given table) × (n ≡ length (pages_walked len (state (table_asked q)) table))
  -- the numbers that answers on different tables carry add up to at most P-1; an answer may carry none
  pub sum : (questions : List Question) → Distinct (map table_asked questions)
      → total (map (λ (q : Question). pages_in_reply (answer len (state (table_asked q)) q)) questions) ≤ page_count - 1

-- Rule 4.20, for every length, image and map
abbrev pub EveryState : Type 0
EveryState = (len : ℕ) (m : Memory) → TablesDisjoint len (λ _. m) (len / page_size m)

-- Rule 8.18, for a run of these calls
pub record RunDisjoint (len : ℕ) (before : Memory) (calls : List Call) : Type 0 where
  -- in the state that they leave
  pub here : TablesDisjoint len (λ _. run_memory len before calls) (len / page_size (run_memory len before calls))
  -- with each table asked for at a place of its own, after some first part of these calls
  pub anywhere : (place : (table : ℕ) → List Call) → ((table : ℕ) → Begins (place table) calls)
      → TablesDisjoint len (λ (table : ℕ). run_memory len before (place table)) (len / page_size (run_memory len before calls))

abbrev pub EveryRunDisjoint : Type 0
EveryRunDisjoint = (len : ℕ) (before : Memory) → Opens len before → (calls : List Call) → RunDisjoint len before calls
