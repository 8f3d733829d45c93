-- Rules 7.3 to 7.7: two pages of one length that agree on the relevant bytes are read alike.
--     read_agree                    the answer
--     next_same                     the next page
--     rows_same, parts_same         the rows, and the relevant bytes of each
--     row_read_agree, one_part      the answer where one row is read (rule 7.14), and the relevant bytes of that row
use mathlib.Core.Path.{◌≡◌, refl, sym, ap, ◌∙◌}
use mathlib.Core.Bool.{Bool, true, false, not, ◌&&◌, or-true, false≢true}
use mathlib.Core.List.{List, [], ◌∷◌, map}
use Prim.Native.Nat.{ℕ, zero, suc, ◌+◌, ◌-◌, ◌<◌, ◌≤◌}
use native.Mathlib.Omega.{arith}
use lib.ListN.{length, take, drop, get_or, length-drop, length-map}
use lib.Dec.{ltb, leb}
use borrow.Author.Tests.{ltb-true, lt-ltb, le-leb, not-false}
use Rattle.number.specs.Number.{byte_at, le24, le32}
use Rattle.number.specs.Agree.{Agree, within}
use Rattle.table.specs.declared.Table.{Table}
use Rattle.row.specs.Bytes.{row_byte}
use Rattle.page.specs.declared.Row.{Row}
use Rattle.page.specs.Header.{next_page, number_agrees, type_agrees, header_agrees, rowless, entries, num_rows}
use Rattle.page.specs.Index.{index_size, flags_at, offset_at, present, row_start, present_from}
use Rattle.page.specs.Found.{Rows, row_of, no_row}
use Rattle.page.specs.Read.{index_fits, count_agrees, index_good, before_index, row_entries, page_rows, check_rows, read_page}
use Rattle.page.specs.OneRow.{row_ranked, is_row, read_row}
use Rattle.page.specs.Bytes.{header_byte, flags_byte, offset_byte, row_byte_at, entry_byte, entries_byte, read_byte, page_byte, named_byte, one_row_byte}
use Rattle.lists.specs.Alias.{Bytes}
use Rattle.lists.specs.Any.{any_from}
use Rattle.lists.proofs.Each.{Each}
use Rattle.lists.proofs.Any.{any_at}
use Rattle.std.proofs.lemmas.List.{get_or-map}
use Rattle.lists.proofs.Choice.{on, cond_holds, cond_agree, or_left, or_right}
use Rattle.number.proofs.NumberAgree.{agree_less, agree_inside, take_agree, drop_agree, byte_agree, le16_agree, le24_agree, le32_agree}
use Rattle.row.proofs.RowAgree.{check_agree}
use Rattle.page.proofs.RowEntries.{good_parts}
use Rattle.page.proofs.OneRowAnswer.{row_here}

-- the header's fields, in file order
module _ {s t : Bytes} (a : Agree header_byte s t) where
  page_index_agree : le32 s 0x04 ≡ le32 t 0x04
  unfolding header_byte
  page_index_agree = le32_agree 0x04 (agree_less (λ i e. or_left _ e) a)

  type_agree : le32 s 0x08 ≡ le32 t 0x08
  unfolding header_byte
  type_agree = le32_agree 0x08 (agree_less (λ i e. simp (e, or-true)) a)

  next_page_agree : le32 s 0x0c ≡ le32 t 0x0c
  unfolding header_byte
  next_page_agree = le32_agree 0x0c (agree_less (λ i e. simp (e, or-true)) a)

  counts_agree : le24 s 0x18 ≡ le24 t 0x18
  unfolding header_byte
  counts_agree = le24_agree 0x18 (agree_less (λ i e. simp (e, or-true)) a)

  flags_agree : byte_at s 0x1b ≡ byte_at t 0x1b
  unfolding header_byte
  flags_agree = byte_agree 0x1b (agree_less (λ i e. simp (e, or-true)) a)

  number_agree : (number : ℕ) → number_agrees number s ≡ number_agrees number t
  unfolding number_agrees
  number_agree number = rw page_index_agree

  table_agree : (table : Table) → type_agrees table s ≡ type_agrees table t
  unfolding type_agrees
  table_agree table = rw type_agree

  rowless_agree : rowless s ≡ rowless t
  unfolding rowless
  rowless_agree = rw flags_agree

  entries_agree : entries s ≡ entries t
  unfolding entries
  entries_agree = rw counts_agree

  counted_agree : num_rows s ≡ num_rows t
  unfolding num_rows
  counted_agree = rw counts_agree

  fits_agree : index_fits s ≡ index_fits t
  unfolding index_fits
  fits_agree = rw (entries_agree, a.long)

-- byte i of a row's part is byte start + i of the page
row-byte : (table : Table) (rows : Bytes) (start i : ℕ) → (ltb i (length (drop start rows)) && row_byte table (drop start rows) i) ≡ true
    → row_byte_at table rows start (start + i) ≡ true
unfolding row_byte_at
row-byte table rows start i e = on (ltb i (length (drop start rows))) here (λ f. absurd (false≢true (rw f at e)))
  where
    here : ltb i (length (drop start rows)) ≡ true
        → (leb start (start + i) && (ltb (start + i) (length rows) && row_byte table (drop start rows) (start + i - start))) ≡ true
    here f =
        let inside : start + i < length rows = omega (arith, ltb-true i (length (drop start rows)) f, length-drop start rows) in
        let back : start + i - start ≡ i = omega arith in
        rw (le-leb start (start + i) (omega arith), lt-ltb (start + i) (length rows) inside, back) (rw f at e)

-- the parts of a row, from its start to the row index, agree on its bytes
abbrev pub RowAgree : (table : Table) (before other : Bytes) (start : ℕ) → Type 0
RowAgree table before other start = Agree (row_byte table (drop start before)) (drop start before) (drop start other)

abbrev pub FoundAgree : (table : Table) (before other : Bytes) (row : Row) → Type 0
FoundAgree table before other row = RowAgree table before other row.start

-- one entry: its flag and its row's start
module _ {s t : Bytes} (j : ℕ) (a : Agree (within (flags_at s j) 2) s t) where
  flags-at : flags_at s j ≡ flags_at t j
  unfolding flags_at
  flags-at = rw a.long

  present_agree : present s j ≡ present t j
  unfolding present
  present_agree = rw (le16_agree (flags_at s j) a, flags-at)

  start_agree : Agree (offset_byte s j) s t → present s j ≡ true → row_start s j ≡ row_start t j
  unfolding row_start offset_at offset_byte
  start_agree o p = rw (le16_agree (offset_at s j) (agree_less (λ i e. rw (p, e)) o), flags-at)

-- a row's part of the page agrees where its bytes do
part_agree : (table : Table) {s t : Bytes} (start limit : ℕ) → before_index s ≡ take limit s → Agree (row_byte_at table (before_index s) start) s t
    → RowAgree table (take limit s) (take limit t) start
part_agree table {s} start limit before a =
    agree_inside (agree_less (λ i e. rw before (row-byte table (take limit s) start i e)) (drop_agree start (take_agree limit a)))

before : (page : Bytes) → before_index page ≡ take (length page - index_size (entries page)) page
unfolding before_index
before page = refl

before_agree : {s t : Bytes} → Agree header_byte s t → before_index t ≡ take (length s - index_size (entries s)) t
unfolding before_index
before_agree a = rw (← a.long, ← entries_agree a)

-- all entries: which are present, and then their rows
module _ {s t : Bytes} (n : ℕ) (flags : (j : ℕ) → j < n → Agree (within (flags_at s j) 2) s t) where
  present_same : (k j : ℕ) → j + k ≤ n → present_from s k j ≡ present_from t k j
  unfolding present_from
  present_same zero j h = refl
  present_same (suc k) j h = rw (← present_agree j (flags j (omega arith)), present_same k (j + 1) (omega arith))

  rows_agree : (number : ℕ) → ((j : ℕ) → j < n → Agree (offset_byte s j) s t) → (k j : ℕ) → j + k ≤ n
      → map (row_of number s) (present_from s k j) ≡ map (row_of number t) (present_from t k j)
  unfolding present_from
  rows_agree number offsets zero j h = refl
  rows_agree number offsets (suc k) j h =
      let rest = rows_agree number offsets k (j + 1) (omega arith) in
      let f = flags j (omega arith) in
      rw (← present_agree j f) (on (present s j) (λ p. rw (p, start_agree j f (offsets j (omega arith)) p, rest)) (λ p. rw p rest))

flags_each : {s t : Bytes} → Agree (flags_byte s) s t → (j : ℕ) → j < entries s → Agree (within (flags_at s j) 2) s t
unfolding flags_byte
flags_each {s} a j l = agree_less (λ i e. any_at (λ (k : ℕ). within (flags_at s k) 2 i) (entries s) 0 j (omega arith) (omega arith) e) a

-- pages whose header fields agree, and so do the flags of an index that fits
module _ {s t : Bytes} (a : Agree header_byte s t) (flags : rowless s ≡ false → index_fits s ≡ true → Agree (flags_byte s) s t) where
  good_agree : rowless s ≡ false → index_good s ≡ index_good t
  unfolding index_good count_agrees
  good_agree r =
      rw (← fits_agree a, ← entries_agree a, ← counted_agree a)
      (on (index_fits s) (λ f. rw (f, present_same (entries s) (flags_each (flags r f)) (entries s) 0 (omega arith))) (λ f. rw f))

  whole_rows : (number : ℕ) → (rowless s ≡ false → index_good s ≡ true → (j : ℕ) → j < entries s → Agree (offset_byte s j) s t)
      → page_rows number s ≡ page_rows number t
  unfolding row_entries
  whole_rows number offsets =
      rw (← rowless_agree a)
      (on (rowless s) (λ r. rw r)
      (λ r. rw (r, ← good_agree r, ← entries_agree a)
      (on (index_good s)
      (λ g. rw g (rows_agree (entries s) (flags_each (flags r (good_parts s g).0)) number (offsets r g) (entries s) 0 (omega arith)))
      (λ g. rw g))))

-- all entries' rows
module _ (table : Table) {s t : Bytes} (n : ℕ) (each : (j : ℕ) → j < n → Agree (entry_byte table s j) s t) where
  bytes_agree : (number limit : ℕ) → before_index s ≡ take limit s → (k j : ℕ) → j + k ≤ n
      → Each (FoundAgree table (take limit s) (take limit t)) (map (row_of number s) (present_from s k j))
  unfolding present_from entry_byte
  bytes_agree number limit before zero j h = tt
  bytes_agree number limit before (suc k) j h =
      let rest = bytes_agree number limit before k (j + 1) (omega arith) in
      cond_holds (λ (some : List ℕ). Each (FoundAgree table (take limit s) (take limit t)) (map (row_of number s) some)) (present s j)
      (λ p. (part_agree table (row_start s j) limit before (agree_less (λ i e. or_right (offset_byte s j i) (rw (p, e))) (each j (omega arith))), rest))
      (λ _. rest)

rows_check : (table : Table) (before other : Bytes) (rows : Rows) → Each (FoundAgree table before other) rows
    → check_rows table before rows ≡ check_rows table other rows
unfolding check_rows
rows_check table before other [] e = refl
rows_check table before other (row ∷ rows) e = rw (check_agree table e.0, rows_check table before other rows e.1)

-- what two pages share that agree on the relevant bytes: of a good index also those that more names
record ReadAgree (number : ℕ) (table : Table) (s t : Bytes) (more : ℕ → Bool) : Type 0 where
  headers : Agree header_byte s t
  flags : header_agrees number table s ≡ true → rowless s ≡ false → index_fits s ≡ true → Agree (flags_byte s) s t
  rest : header_agrees number table s ≡ true → rowless s ≡ false → index_good s ≡ true → Agree more s t

byte_parts : (number : ℕ) (table : Table) {s t : Bytes} (more : ℕ → Bool) → Agree (read_byte number table s more) s t → ReadAgree number table s t more
unfolding read_byte
byte_parts number table {s} more a =
    record {
      headers = agree_less (λ i e. or_left _ e) a;
      flags = λ h r f. agree_less (λ i e. or_right (header_byte i) (rw (h, r, f) (or_left _ e))) a;
      rest =
          λ h r g. let good = good_parts s g in
          agree_less (λ i e. or_right (header_byte i) (rw (h, r, good.0, good.1) (or_right (flags_byte s i) e))) a;
    }

both_agree : (number : ℕ) (table : Table) (page : Bytes) → not (number_agrees number page) ≡ false → not (type_agrees table page) ≡ false
    → header_agrees number table page ≡ true
both_agree number table page e f = rw (not-false (number_agrees number page) e, not-false (type_agrees table page) f)

-- a page that is read whole
module _ (number : ℕ) (table : Table) {s t : Bytes} (a : Agree (page_byte number table s) s t) where
  parts : ReadAgree number table s t (entries_byte table s)
  parts = byte_parts number table (entries_byte table s) a

  module _ (h : header_agrees number table s ≡ true) where
    entry_bytes : rowless s ≡ false → index_good s ≡ true → (j : ℕ) → j < entries s → Agree (entry_byte table s j) s t
    unfolding entries_byte
    entry_bytes r g j l =
        agree_less (λ i e. any_at (λ (k : ℕ). entry_byte table s k i) (entries s) 0 j (omega arith) (omega arith) e) (parts.rest h r g)

    pub rows_same : page_rows number s ≡ page_rows number t
    unfolding entry_byte
    rows_same = whole_rows parts.headers (parts.flags h) number (λ r g j l. agree_less (λ i e. or_left _ e) (entry_bytes r g j l))

    pub parts_same : Each (FoundAgree table (before_index s) (before_index t)) (page_rows number s)
    unfolding row_entries
    parts_same =
        let All : List ℕ → Type 0 = λ (some : List ℕ). Each (FoundAgree table (before_index s) (before_index t)) (map (row_of number s) some) in
        cond_holds All (rowless s) (λ _. tt)
        (λ r. cond_holds All (index_good s)
        (λ g. rw (before s, before_agree parts.headers)
        (bytes_agree table (entries s) (entry_bytes r g) number (length s - index_size (entries s)) (before s) (entries s) 0 (omega arith))) (λ _. tt))

    checks_same : check_rows table (before_index s) (page_rows number s) ≡ check_rows table (before_index t) (page_rows number s)
    checks_same = rows_check table (before_index s) (before_index t) (page_rows number s) parts_same

  pub next_same : next_page s ≡ next_page t
  next_same = next_page_agree parts.headers

  pub read_agree : read_page number table s ≡ read_page number table t
  unfolding read_page
  read_agree =
      rw (← number_agree parts.headers number, ← table_agree parts.headers table, ← rowless_agree parts.headers)
      (cond_agree (not (number_agrees number s)) (λ _. refl)
      (λ e. cond_agree (not (type_agrees table s)) (λ _. refl)
      (λ f. let h = both_agree number table s e f in
      cond_agree (rowless s) (λ _. refl) (λ r. rw (checks_same h, rows_same h, good_agree parts.headers (parts.flags h) r)))))

-- where the rows are the same, so is the row of a rank, and whether it is there
module _ (number start rank : ℕ) (s t : Bytes) (e : page_rows number s ≡ page_rows number t) where
  many_same : length (row_entries s) ≡ length (row_entries t)
  many_same = sym (length-map (row_entries s) (row_of number s)) ∙ ap length e ∙ length-map (row_entries t) (row_of number t)

  ranked_same : rank < length (row_entries s) → row_ranked number s rank ≡ row_ranked number t rank
  ranked_same h =
      sym (get_or-map (row_of number s) (row_entries s) rank 0 no_row h) ∙ ap (λ (rows : Rows). get_or rows rank no_row) e
      ∙ get_or-map (row_of number t) (row_entries t) rank 0 no_row (rw many_same at h)

  is_row_same : is_row s start rank ≡ is_row t start rank
  unfolding is_row
  is_row_same =
      rw (← many_same)
      (on (ltb rank (length (row_entries s)))
      (λ h. rw (h, ap (λ (row : Row). row.start) (ranked_same (ltb-true rank (length (row_entries s)) h)))) (λ h. rw h))

-- a page of which one row is read
module _ (number : ℕ) (table : Table) (start rank : ℕ) {s t : Bytes} (a : Agree (one_row_byte number table s start rank) s t) where
  one_parts : ReadAgree number table s t (named_byte table s start rank)
  one_parts = byte_parts number table (named_byte table s start rank) a

  module _ (h : header_agrees number table s ≡ true) where
    one_offsets : rowless s ≡ false → index_good s ≡ true → (j : ℕ) → j < entries s → Agree (offset_byte s j) s t
    unfolding named_byte
    one_offsets r g j l =
        agree_less (λ i e. or_left _ (any_at (λ (k : ℕ). offset_byte s k i) (entries s) 0 j (omega arith) (omega arith) e)) (one_parts.rest h r g)

    one_rows : page_rows number s ≡ page_rows number t
    one_rows = whole_rows one_parts.headers (one_parts.flags h) number one_offsets

    is_row_agree : is_row s start rank ≡ is_row t start rank
    is_row_agree = is_row_same number start rank s t one_rows

    -- the row's part
    pub one_part : rowless s ≡ false → index_good s ≡ true → is_row s start rank ≡ true → RowAgree table (before_index s) (before_index t) start
    unfolding named_byte
    one_part r g w =
        rw (before s, before_agree one_parts.headers)
        (part_agree table start (length s - index_size (entries s)) (before s)
        (agree_less (λ i e. or_right (any_from (λ (k : ℕ). offset_byte s k i) (entries s) 0) (rw (w, e))) (one_parts.rest h r g)))

  pub row_read_agree : read_row number table s start rank ≡ read_row number table t start rank
  unfolding read_row
  row_read_agree =
      rw (← number_agree one_parts.headers number, ← table_agree one_parts.headers table, ← rowless_agree one_parts.headers)
      (cond_agree (not (number_agrees number s)) (λ _. refl)
      (λ e. cond_agree (not (type_agrees table s)) (λ _. refl)
      (λ f. let h = both_agree number table s e f in
      cond_agree (rowless s) (λ _. refl)
      (λ r. rw (← good_agree one_parts.headers (one_parts.flags h) r)
      (cond_agree (not (index_good s)) (λ _. refl)
      (λ b. let g = not-false (index_good s) b in
      rw (← is_row_agree h)
      (cond_agree (not (is_row s start rank)) (λ _. refl)
      (λ n. let w = not-false (is_row s start rank) n in
      let here = row_here s start rank w in
      let there = row_here t start rank (sym (is_row_agree h) ∙ w) in
      let same = ap (λ (row : Row). row.entry) (ranked_same number start rank s t (one_rows h) here.0) in
      rw (here.1, there.1, ← same, check_agree table (one_part h r g w))))))))))
