-- Rule 5.30 in the rows along a chain, whose pages differ: the places directly before a row that lie on its page are the rows of that page
-- before it, so its rank is its number among them.
--     run_front                lists that begin alike have the same runs
--     place_at                 the place of a row
--     Ranked, along_ranked     each of the rows along a chain is a row of one of its pages, by its rank
use mathlib.Core.Path.{◌≡◌, refl, sym, ◌∙◌}
use mathlib.Core.Bool.{true, false≢true}
use mathlib.Core.List.{List, [], ◌++◌, append_assoc}
use Prim.Native.Nat.{ℕ, zero, suc, ◌+◌, ◌-◌, ◌/◌, ◌<◌, ◌≤◌}
use native.Mathlib.Nat.{add-suc, add-zero}
use native.Mathlib.Numerals.{add-one}
use native.Mathlib.Omega.{arith}
use lib.ListN.{length, get_or, length-append, get_or-append}
use lib.Seq.{get_or-append-add}
use lib.Dec.{ltb}
use borrow.Author.Tests.{eq-eqb, ne_eqb, ltb-true, ltb-false}
use Rattle.lists.specs.Alias.{Places}
use Rattle.lists.specs.Member.{is_member}
use Rattle.lists.specs.Distinct.{Distinct}
use Rattle.lists.proofs.Choice.{on}
use Rattle.lists.proofs.Each.{Each, each_at, each_append, each_of}
use Rattle.std.proofs.lemmas.List.{get_or-map}
use Rattle.lists.proofs.Member.{member_first, member_more}
use Rattle.page.specs.declared.Row.{Row}
use Rattle.page.specs.Found.{Rows, place_of, places, no_row}
use Rattle.chain.specs.Along.{along, rows_along}
use Rattle.listed.specs.Rank.{run_before}

pub run_front : (size : ℕ) (list other : Places) (page i : ℕ) → ((j : ℕ) → j < i → get_or list j 0 ≡ get_or other j 0)
    → run_before size list page i ≡ run_before size other page i
unfolding run_before
run_front size list other page zero same = refl
run_front size list other page (suc i) same =
    rw (same i (omega arith), run_front size list other page i (λ j h. same j (omega arith)))

module _ (size : ℕ) where
  -- a row's place lies on this page
  abbrev On : ℕ → Row → Type 0
  On page row = place_of size row / size ≡ page

  abbrev Off : ℕ → Row → Type 0
  Off page row = On page row → ⊥

  -- those of all rows do, or none does
  abbrev pub AllOn : ℕ → Rows → Type 0
  AllOn page rows = Each (On page) rows

  abbrev pub NoneOn : ℕ → Rows → Type 0
  NoneOn page rows = Each (Off page) rows

  -- the place of row i
  pub place_at : (rows : Rows) (i : ℕ) → i < length rows → get_or (places size rows) i 0 ≡ place_of size (get_or rows i no_row)
  place_at rows i h = get_or-map (place_of size) rows i no_row 0 h

  -- behind rows of other pages a page's rows begin a run
  module _ (page : ℕ) (front rows rest : Rows) (off : NoneOn page front) (here : AllOn page rows) where
    abbrev all : Rows
    all = front ++ (rows ++ rest)

    -- a row of the front, and a row of the page
    front_at : (i : ℕ) → i < length front → get_or all i no_row ≡ get_or front i no_row
    front_at i h = get_or-append front (rows ++ rest) no_row i h

    row_at : (i : ℕ) → i < length rows → get_or all (length front + i) no_row ≡ get_or rows i no_row
    row_at i h = get_or-append-add front (rows ++ rest) i no_row ∙ get_or-append rows rest no_row i h

    long : length all ≡ length front + (length rows + length rest)
    long = length-append front (rows ++ rest) ∙ rw (length-append rows rest)

    run_begins : (n : ℕ) → n ≡ length front → run_before size (places size all) page n ≡ 0
    unfolding run_before
    run_begins zero e = refl
    run_begins (suc n) e =
        let other = each_at (Off page) front n no_row off (omega arith) in
        rw (place_at all n (omega (arith, long)), front_at n (omega arith), ne_eqb (place_of size (get_or front n no_row) / size) page other)

    run_at : (i : ℕ) → i ≤ length rows → run_before size (places size all) page (length front + i) ≡ i
    unfolding run_before
    run_at zero h = run_begins (length front + 0) (add-zero (length front))
    run_at (suc i) h =
        let on_page = each_at (On page) rows i no_row here (omega arith) in
        let at = place_at all (length front + i) (omega (arith, long)) in
        rw (add-suc (length front) i, at, row_at i (omega arith), eq-eqb (place_of size (get_or rows i no_row) / size) page on_page, run_at i (omega arith), add-one i)

  -- element i of these rows is a row of one of the chain's pages, and its rank says which
  pub record Ranked (next : ℕ → ℕ) (rows_of : ℕ → Rows) (k first : ℕ) (all : Rows) (i : ℕ) : Type 0 where
    pub page : ℕ
    pub number : ℕ
    pub passed : is_member page (along next k first) ≡ true
    pub below : number < length (rows_of page)
    pub row : get_or all i no_row ≡ get_or (rows_of page) number no_row
    pub run : run_before size (places size all) page i ≡ number

  module _ (next : ℕ → ℕ) (rows_of : ℕ → Rows) where
    ranked : (k first : ℕ) (front : Rows) → Distinct (along next k first)
        → ((q : ℕ) → is_member q (along next k first) ≡ true → AllOn q (rows_of q))
        → ((q : ℕ) → is_member q (along next k first) ≡ true → NoneOn q front)
        → (i : ℕ) → i < length (rows_along next rows_of k first)
        → Ranked next rows_of k first (front ++ rows_along next rows_of k first) (length front + i)
    unfolding along rows_along
    ranked zero first front distinct each off i h = absurd (omega arith)
    ranked (suc k) first front distinct each off i h =
        on (ltb i (length rows)) (λ t. here (ltb-true i (length rows) t))
        (λ t. behind (ltb-false i (length rows) t)
        (ranked k (next first) (front ++ rows) distinct.1 (λ q e. each q (member_more q first pages e)) other (i - length rows)))
      where
        rows : Rows
        rows = rows_of first

        rest : Rows
        rest = rows_along next rows_of k (next first)

        pages : List ℕ
        pages = along next k (next first)

        here : i < length rows → Ranked next rows_of (suc k) first (front ++ (rows ++ rest)) (length front + i)
        here l =
            let first_on = each first (member_first first pages) in
            let first_off = off first (member_first first pages) in
            record {
              page = first;
              number = i;
              passed = member_first first pages;
              below = l;
              row = row_at first front rows rest first_off first_on i l;
              run = run_at first front rows rest first_off first_on i (omega arith);
            }

        other : (q : ℕ) → is_member q pages ≡ true → NoneOn q (front ++ rows)
        other q e =
            each_append (Off q) front rows (off q (member_more q first pages e))
            (each_of (On first) (Off q) rows
            (λ row on_first on_q. let same : q ≡ first = sym on_q ∙ on_first in false≢true (sym distinct.0 ∙ rw same at e)) (each first (member_first first pages)))

        behind : length rows ≤ i → (i - length rows < length rest → Ranked next rows_of k (next first) ((front ++ rows) ++ rest) (length (front ++ rows) + (i - length rows)))
            → Ranked next rows_of (suc k) first (front ++ (rows ++ rest)) (length front + i)
        behind l later =
            let short : i - length rows < length rest = omega (arith, length-append rows rest) in
            let at : length (front ++ rows) + (i - length rows) ≡ length front + i = omega (arith, length-append front rows) in
            let found = rw (append_assoc front rows rest, at) at (later short) in
            record {
              page = found.page;
              number = found.number;
              passed = member_more found.page first pages found.passed;
              below = found.below;
              row = found.row;
              run = found.run;
            }

    pub along_ranked : (k first : ℕ) → Distinct (along next k first) → ((q : ℕ) → is_member q (along next k first) ≡ true → AllOn q (rows_of q))
        → (i : ℕ) → i < length (rows_along next rows_of k first) → Ranked next rows_of k first (rows_along next rows_of k first) i
    along_ranked k first distinct each i h =
        let z : 0 + i ≡ i = omega arith in
        rw z at (ranked k first [] distinct each (λ q e. tt) i h)
