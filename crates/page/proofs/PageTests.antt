-- Rule 4.15: the tests of a page, and what they leave.
--     number_rung to good_rung           which test answers, by the tests of the code; by_tests: a case for each
--     index_told                         what they tell of the index that they leave
--     counted_rows, no_rows, rows_refused     what reading the page answers then
--     ranked_row, no-row, row_refused         and what reading one row does
use mathlib.Core.Path.{◌≡◌, refl, sym, ap, ◌∙◌}
use mathlib.Core.Bool.{true, false, not, ◌&&◌}
use mathlib.Core.List.{List, [], map}
use Rattle.std.specs.Prelude.{Option, Some, None, Result, Ok, Err}
use Prim.Native.Nat.{ℕ, ◌-◌}
use lib.ListN.{length, take, get_or, length-map}
use lib.Dec.{eqb, ltb}
use borrow.Author.Tests.{ltb-true}
use Rattle.lists.specs.Alias.{Bytes}
use Rattle.lists.specs.Nth.{Nth, nth}
use Rattle.lists.proofs.Choice.{on, never}
use Rattle.std.proofs.lemmas.List.{get_or-map}
use Rattle.refusal.specs.declared.Fault.{Fault}
use Rattle.refusal.specs.declared.Refusal.{Refusal}
use Rattle.refusal.specs.Fault.{fault, fault_of}
use Rattle.refusal.specs.Answer.{Answer, given, refused, refuse_if, and_then, answer_of}
use Rattle.table.specs.declared.Table.{Table}
use Rattle.page.specs.declared.Row.{Row}
use Rattle.page.specs.Header.{number_agrees, type_agrees, rowless, entries}
use Rattle.page.specs.Index.{index_size, row_start, present_from}
use Rattle.page.specs.Found.{Rows, row_of, no_row}
use Rattle.page.specs.Read.{index_good, before_index, row_entries, judged, check_rows, page_tests, read_page, row_count}
use Rattle.page.specs.OneRow.{is_row, read_row}
use Rattle.page.specs.Private.{PageIndex, index_of, good_index, tested_index, rows_from, checked_count, judged_at}

module _ (number : ℕ) (table : Table) (page : Bytes) where
  pub number_rung : number_agrees number page ≡ false → refused (fault 12 number) ≡ tested_index number table page
  number_rung h = rw h

  module _ (h : number_agrees number page ≡ true) where
    pub type_rung : type_agrees table page ≡ false → refused (fault 25 number) ≡ tested_index number table page
    type_rung t = rw (h, t)

    module _ (t : type_agrees table page ≡ true) where
      pub rowless_rung : rowless page ≡ true → given None ≡ tested_index number table page
      rowless_rung r = rw (h, t, r)

      module _ (r : rowless page ≡ false) {found : Option PageIndex} (e : found ≡ good_index page) where
        pub index_rung : found ≡ None → refused (fault 13 number) ≡ tested_index number table page
        index_rung k =
            let none : good_index page ≡ None = sym e ∙ k in
            on (index_good page) (λ g. never (cc (rw g at none))) (λ g. rw (h, t, r, g))

        pub good_rung : {index : PageIndex} → found ≡ Some index → given (Some index) ≡ tested_index number table page
        good_rung {index} k =
            let some : good_index page ≡ Some index = sym e ∙ k in
            on (index_good page) (λ g. rw (h, t, r, g) (cc (rw g at some))) (λ g. never (cc (rw g at some)))

  -- a case for each test that answers
  pub by_tests : {B : Type 0} → (number_agrees number page ≡ false → B)
      → (number_agrees number page ≡ true → type_agrees table page ≡ false → B)
      → (number_agrees number page ≡ true → type_agrees table page ≡ true → rowless page ≡ true → B)
      → (number_agrees number page ≡ true → type_agrees table page ≡ true → rowless page ≡ false → index_good page ≡ false → B)
      → (number_agrees number page ≡ true → type_agrees table page ≡ true → rowless page ≡ false → index_good page ≡ true → B) → B
  by_tests n t r b g =
      on (number_agrees number page)
      (λ h. on (type_agrees table page)
      (λ k. on (rowless page) (r h k) (λ e. on (index_good page) (g h k e) (b h k e)))
      (t h))
      n

  module _ {A : Type 0} (x y : Answer A) where
    tested_refused : {f : Fault} → refused f ≡ tested_index number table page → refused f ≡ page_tests number table page x y
    tested_refused e =
        by_tests (λ h. rw h (cc (rw h at e))) (λ h t. rw (h, t) (cc (rw (h, t) at e))) (λ h t r. never (cc (rw (h, t, r) at e)))
        (λ h t r g. rw (h, t, r, g) (cc (rw (h, t, r, g) at e))) (λ h t r g. never (cc (rw (h, t, r, g) at e)))

    tested_rowless : given None ≡ tested_index number table page → x ≡ page_tests number table page x y
    tested_rowless e =
        by_tests (λ h. never (cc (rw h at e))) (λ h t. never (cc (rw (h, t) at e))) (λ h t r. rw (h, t, r))
        (λ h t r g. never (cc (rw (h, t, r, g) at e))) (λ h t r g. never (cc (rw (h, t, r, g) at e)))

  pub record Rowful (index : PageIndex) : Type 0 where
    pub numbered : number_agrees number page ≡ true
    pub typed : type_agrees table page ≡ true
    pub rows : rowless page ≡ false
    pub good : index_good page ≡ true
    pub index_is : index ≡ index_of page

  tested_good : {index : PageIndex} → given (Some index) ≡ tested_index number table page → Rowful index
  tested_good e =
      by_tests (λ h. never (cc (rw h at e))) (λ h t. never (cc (rw (h, t) at e))) (λ h t r. never (cc (rw (h, t, r) at e)))
      (λ h t r g. never (cc (rw (h, t, r, g) at e)))
      (λ h t r g. record { numbered = h; typed = t; rows = r; good = g; index_is = cc (rw (h, t, r, g) at e) })

  -- by what the code is told
  module _ {tested : Result (Option PageIndex) Refusal} (e : answer_of tested ≡ tested_index number table page) where
    pub index_told : {index : PageIndex} → tested ≡ Ok (Some index) → Rowful index
    index_told k = tested_good (sym (ap answer_of k) ∙ e)

    pub no_rows : tested ≡ Ok None → given 0 ≡ row_count (read_page number table page)
    unfolding read_page
    no_rows k = ap row_count (tested_rowless (given []) _ (sym (ap answer_of k) ∙ e))

    pub rows_refused : {refusal : Refusal} → tested ≡ Err refusal → refused (fault_of refusal) ≡ row_count (read_page number table page)
    unfolding read_page
    rows_refused k = ap row_count (tested_refused (given []) _ (sym (ap answer_of k) ∙ e))

    pub no-row : (start rank : ℕ) → tested ≡ Ok None → refused (fault 18 0) ≡ read_row number table page start rank
    unfolding read_row
    no-row start rank k = tested_rowless (refused (fault 18 0)) _ (sym (ap answer_of k) ∙ e)

    pub row_refused : (start rank : ℕ) {refusal : Refusal} → tested ≡ Err refusal → refused (fault_of refusal) ≡ read_row number table page start rank
    unfolding read_row
    row_refused start rank k = tested_refused (refused (fault 18 0)) _ (sym (ap answer_of k) ∙ e)

  count_then : (answer : Answer (Unit {0})) (found : Rows) → and_then answer (λ _. given (length found)) ≡ row_count (and_then answer (λ _. given found))
  count_then (given u) found = refl
  count_then (refused f) found = refl

  pub counted_rows : {index : PageIndex} → Rowful index
      → checked_count table (take (length index.page - index_size index.entries) index.page) (rows_from number index.page index.entries 0) ≡ row_count (read_page number table page)
  unfolding read_page checked_count before_index row_entries
  counted_rows g =
      let found = rows_from number page (entries page) 0 in
      rw (g.numbered, g.typed, g.rows, g.good, g.index_is) (count_then (check_rows table (before_index page) found) found)

-- the row of a rank among these entries, which is to start there
judged_ranked : (number : ℕ) (table : Table) (page before : Bytes) (start rank : ℕ) (chosen : List ℕ)
    → judged_at table before start (nth no_row (map (row_of number page) chosen) rank 0)
    ≡ refuse_if (not (ltb rank (length chosen) && eqb (row_start page (get_or chosen rank 0)) start)) (fault 18 0)
    (judged table before (row_of number page (get_or chosen rank 0)))
judged_ranked number table page before start rank chosen =
    on (ltb rank (length chosen))
    (λ h. rw (length-map chosen (row_of number page), h, get_or-map (row_of number page) chosen rank 0 no_row (ltb-true rank (length chosen) h)))
    (λ h. rw (length-map chosen (row_of number page), h))

pub ranked_row : (number : ℕ) (table : Table) (page : Bytes) (start rank : ℕ) {index : PageIndex} → Rowful number table page index → {found : Nth Row}
    → found ≡ nth no_row (rows_from number index.page index.entries 0) rank 0
    → judged_at table (take (length index.page - index_size index.entries) index.page) start found ≡ read_row number table page start rank
unfolding read_row before_index is_row row_entries
ranked_row number table page start rank g s =
    let before = take (length page - index_size (entries page)) page in
    rw (s, g.index_is, judged_ranked number table page before start rank (present_from page (entries page) 0), g.numbered, g.typed, g.rows, g.good)
