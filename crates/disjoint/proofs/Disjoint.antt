-- The theorems of specs/Disjoint.
-- The pages walked for a table have its number as their type (proofs/TablePages), so those of different tables differ; in a run a page that is held keeps
-- its bytes and so its type (table_walk: SameBlocks).
use mathlib.Core.Path.{◌≡◌, refl, sym, ap, ◌∙◌}
use mathlib.Core.Bool.{true, false≢true}
use mathlib.Core.List.{List, [], ◌++◌}
use mathlib.Core.Option.{some}
use Prim.Native.Nat.{ℕ, ◌/◌}
use lib.ListN.{length, drop, take-append-drop}
use Rattle.lists.specs.Member.{is_member}
use Rattle.lists.specs.Distinct.{Distinct}
use Rattle.refusal.specs.Answer.{Answer, given, refused}
use Rattle.format.specs.Place.{linkable}
use Rattle.table.specs.declared.Table.{Table}
use Rattle.table.specs.Table.{table_number, table_of}
use Rattle.page.specs.Header.{type}
use Rattle.intake.specs.Sound.{Sound}
use Rattle.intake.specs.Memory.{Memory}
use Rattle.directory.specs.Header.{len_page}
use Rattle.chain.specs.Begins.{Begins}
use Rattle.chain.specs.File.{page_part}
use Rattle.table_walk.specs.Walk.{page_size, table_walk}
use Rattle.run.specs.Call.{Question, Call, answer}
use Rattle.run.specs.Refusal.{table_asked}
use Rattle.run.specs.Run.{run_memory}
use Rattle.disjoint.specs.Pages.{pages_walked}
use Rattle.disjoint.specs.Carried.{pages_in_walk, pages_in_reply}
use Rattle.disjoint.specs.Disjoint.{Disjoint, TablesDisjoint, EveryState, EveryRunDisjoint}
use Rattle.table.proofs.TableNumber.{table-number, same_number}
use Rattle.intake.proofs.OpenClears.{opening_accepted}
use Rattle.chain.proofs.Linkable.{both_inside}
use Rattle.table_walk.proofs.SameBlocks.{MoreBlocks, part_same, first_same}
use Rattle.table_walk.proofs.PageWalked.{PageWalked}
use Rattle.run.proofs.RunHolds.{run_sound}
use Rattle.run.proofs.Demand.{more_later}
use Rattle.disjoint.proofs.TablePages.{TablePage, table_page, pages_distinct, pages_read, rows_walked, pages_counted}
use Rattle.disjoint.proofs.AnswerPages.{answer_pages}
use Rattle.disjoint.proofs.PageSums.{sum_few}

-- where each page has a type, which is the table's number on the pages walked for it
module _ (len : ℕ) (state : ℕ → Memory) (count : ℕ) (type_of : ℕ → ℕ)
    (typed : (t : Table) (page : ℕ) → is_member page (pages_walked len (state (table_number t)) t) ≡ true
    → (type_of page ≡ table_number t) × (linkable count page ≡ true)) where
  abbrev table_pages : Table → List ℕ
  table_pages t = pages_walked len (state (table_number t)) t

  walks_disjoint : Disjoint (λ (t : Table). table_walk len (state (table_number t)) t) table_pages count
  walks_disjoint =
      record {
        counted = counted;
        different = different;
        apart = λ a b page l r. same_number a b (sym (typed a page l).0 ∙ (typed b page r).0);
        rows = λ t. rows_walked len (state (table_number t)) t;
        sum = sum_few table_pages (λ (t : Table). pages_in_walk (table_walk len (state (table_number t)) t)) counted table_number type_of count different typed;
      }
    where
      counted : (t : Table) (n : ℕ) → pages_in_walk (table_walk len (state (table_number t)) t) ≡ some n → n ≡ length (table_pages t)
      counted t = pages_counted len (state (table_number t)) t

      different : (t : Table) → Distinct (table_pages t)
      different t = pages_distinct len (state (table_number t)) t

  -- the pages walked for the table of a number, if it names one
  abbrev number_pages : (number : ℕ) → Answer Table → List ℕ
  number_pages number (given t) = pages_walked len (state number) t
  number_pages number (refused f) = []

  abbrev question_pages : Question → List ℕ
  question_pages q = number_pages (table_asked q) (table_of (table_asked q))

  number_distinct : (number : ℕ) (a : Answer Table) → Distinct (number_pages number a)
  number_distinct number (given t) = pages_distinct len (state number) t
  number_distinct number (refused f) = tt

  number_typed : (number : ℕ) (a : Answer Table) → table_of number ≡ a → (page : ℕ) → is_member page (number_pages number a) ≡ true
      → (type_of page ≡ number) × (linkable count page ≡ true)
  unfolding is_member
  number_typed number (given t) e page m = let same = table-number number t e in rw same (typed t page (rw same at m))
  number_typed number (refused f) e page m = absurd (false≢true m)

  question_counted : (q : Question) (n : ℕ) → pages_in_reply (answer len (state (table_asked q)) q) ≡ some n
      → (t : Table) × (table_of (table_asked q) ≡ given t) × (n ≡ length (pages_walked len (state (table_asked q)) t))
  question_counted q n e =
      let asked = answer_pages len (state (table_asked q)) q n e in
      (asked.table, asked.named, pages_counted len (state (table_asked q)) asked.table n asked.carried)

  pub disjoint : TablesDisjoint len state count
  disjoint =
      record {
        read = λ t. pages_read len (state (table_number t)) t;
        walks = walks_disjoint;
        counted = question_counted;
        sum =
            sum_few question_pages (λ (q : Question). pages_in_reply (answer len (state (table_asked q)) q))
            (λ q n e. let counted = question_counted q n e in rw counted.1 counted.2)
            table_asked type_of count (λ q. number_distinct (table_asked q) (table_of (table_asked q)))
            (λ q page m. number_typed (table_asked q) (table_of (table_asked q)) refl page m);
      }

-- the type of a page, as the image has it
abbrev page_type : (m : Memory) (page : ℕ) → ℕ
page_type m page = type (page_part (page_size m) m.image page)

-- a page that a walk reads is one that a link may name
page_linked : {len : ℕ} {m : Memory} {page : ℕ} → PageWalked len m page → linkable (len / page_size m) page ≡ true
page_linked {len} {m} {page} p = both_inside (len / page_size m) page p.later p.inside.inside

pub tables_disjoint : EveryState
tables_disjoint len m =
    disjoint len (λ _. m) (len / page_size m) (page_type m) (λ t page e. let p = table_page len m t page e in (p.typed, page_linked p.walked))

-- with more blocks held, a page that was walked keeps its type
module _ {len : ℕ} {a b : Memory} (more : MoreBlocks len a b) (sound_a : Sound len a) (sound_b : Sound len b) where
  type_kept : (t : Table) (page : ℕ) → TablePage len a t page → (page_type b page ≡ table_number t) × (linkable (len / page_size b) page ≡ true)
  type_kept t page p =
      let known = p.walked in
      let size : page_size a ≡ page_size b = ap len_page (first_same more sound_a sound_b known.first) in
      (rw (← size, ← part_same more sound_a sound_b known.inside known.held) p.typed, rw (← size) (page_linked known))

pub runs_disjoint : EveryRunDisjoint
unfolding Begins
runs_disjoint len before e calls =
    let passed = opening_accepted len before.image before.map e in
    let end = run_memory len before calls in
    record {
      here = tables_disjoint len end;
      anywhere = λ place begins.
          disjoint len (λ (n : ℕ). run_memory len before (place n)) (len / page_size end) (page_type end)
          (λ t page m.
          let n = table_number t in
          let rest = drop (length (place n)) calls in
          let whole : place n ++ rest ≡ calls = ap (λ (l : List Call). l ++ rest) (sym (begins n)) ∙ take-append-drop (length (place n)) calls in
          let more : MoreBlocks len (run_memory len before (place n)) end = rw whole at (more_later len before passed (place n) rest) in
          type_kept more (run_sound len before passed (place n)) (run_sound len before passed calls) t page
          (table_page len (run_memory len before (place n)) t page m));
    }
