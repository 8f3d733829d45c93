-- Rules 4.19 and 4.20 by example, in files of four pages of 512 bytes: the bound is reached, a table must not stand twice, and the type must be tested.
use Rattle.std.specs.Prelude.{◌≡◌, cond, List, [], ◌∷◌, map, ℕ, ◌+◌, ◌*◌, replicate}
use Rattle.std.proofs.Math.Option.{Option, none, some}
use Rattle.std.proofs.lemmas.List.Edits.{sets}
use Rattle.lists.specs.Alias.{Bytes}
use Rattle.refusal.specs.Fault.{fault}
use Rattle.refusal.specs.Answer.{given, refused, and_then}
use Rattle.table.specs.declared.Table.{Table}
use Rattle.table.specs.declared.Table.TheVariants.{Genres, Artists, Keys}
use Rattle.page.specs.declared.Row.{Row}
use Rattle.page.specs.Found.{Rows}
use Rattle.bitmap.specs.Bit.{bit}
use Rattle.intake.specs.Memory.{Memory, memory, block_at}
use Rattle.directory.specs.Chain.{table_chain}
use Rattle.chain.specs.Walk.{Walk, full, waiting, walk_from}
use Rattle.table_walk.specs.Walk.{table_walk}
use Rattle.run.specs.Call.{Question, all_rows, one_record, one_text, answer}
use Rattle.disjoint.specs.Layers.{Layer, untyped, typed_first, file_layer}
use Rattle.disjoint.specs.Pages.{pages_by, pages_walked}
use Rattle.disjoint.specs.Carried.{pages_in_walk, pages_in_reply, total}
use Rattle.disjoint.specs.Disjoint.{Disjoint}

-- a small number in four bytes, in front of others
abbrev pub four : ℕ → Bytes → Bytes
four n rest = n ∷ 0 ∷ 0 ∷ 0 ∷ rest

-- len_page 512, and two pointers: type 1 with pages 1 to 2, and type 2 with page 3 to this one
abbrev pub header : (last : ℕ) (image : Bytes) → Bytes
header last image =
    sets (sets (sets image 0x04 (0x00 ∷ 0x02 ∷ [])) 0x08 (four 2 []))
    0x1c (four 1 (four 0 (four 1 (four 2 (four 2 (four 0 (four 3 (four last []))))))))

-- a page without rows: page_index, type, next_page, page_flags `64`
abbrev pub page : (number type next : ℕ) (image : Bytes) → Bytes
page number type next image = sets (sets image (512 * number + 0x04) (four number (four type (four next [])))) (512 * number + 0x1b) (0x64 ∷ [])

-- page 2 with one row, whose bytes may be a genre (id `60`) and an artist (subtype `0060`, id 3), each with an empty name
abbrev pub row : (image : Bytes) → Bytes
row image =
    sets (sets (sets image 1048 (1 ∷ 0x20 ∷ 0 ∷ 0x24 ∷ []))
    1064 (0x60 ∷ 0 ∷ 0 ∷ 0 ∷ 0x03 ∷ 0 ∷ 0 ∷ 0 ∷ 0 ∷ 0x0a ∷ 0x03 ∷ [])) 1532 (1 ∷ [])

-- pages 1 and 2 are of genres, page 3 is of artists and names page 2 as the next
abbrev pub file : (last : ℕ) → Bytes
file last = page 3 2 2 (row (page 2 1 0 (page 1 1 2 (header last (replicate 2048 0)))))

-- the row, as it is found
abbrev pub genre : Row
genre = record { page = 2; entry = 0; start = 40 }

-- the artists have page 3 alone; every block is held, or block 2 is missing
abbrev pub good : Memory
good = memory (file 3) (15 ∷ [])

abbrev pub good_without_two : Memory
good_without_two = memory (file 3) (11 ∷ [])

-- the artists' chain leads from page 3 to page 2
abbrev pub shared : Memory
shared = memory (file 2) (15 ∷ [])

abbrev pub shared_without_two : Memory
shared_without_two = memory (file 2) (11 ∷ [])

-- the walk for a table over a page layer
unfoldable pub walk_by : (layer : Layer) (len : ℕ) (m : Memory) (table : Table) → Walk Rows
walk_by layer len m table =
    cond (bit m.map 0)
    (and_then (table_chain len (block_at m.image 0) table) (λ c. walk_from (layer c table m.image m.map) c.first_page))
    (given (waiting 0 [] 0))

-- the numbers that the walks for these tables carry, added up
abbrev pub sum_of : Memory → List Table → ℕ
sum_of m tables = total (map (λ (t : Table). pages_in_walk (table_walk 2048 m t)) tables)

-- the pages walked for genres and for artists
abbrev pub both_by : (layer : Layer) (m : Memory) → List (List ℕ)
both_by layer m = map (pages_by layer 2048 m) (Genres ∷ Artists ∷ [])

-- the numbers that answers carry
abbrev pub numbers_in : Memory → List Question → List (Option ℕ)
numbers_in m questions = map (λ (q : Question). pages_in_reply (answer 2048 m q)) questions

pub record Examples : Type 0 where
  -- pages 1 to 3 of four are walked, none for a table that is not there, and the row is on page 2
  pub lists : map (pages_walked 2048 good) (Genres ∷ Artists ∷ Keys ∷ []) ≡ (1 ∷ 2 ∷ []) ∷ ((3 ∷ []) ∷ ([] ∷ []))
  pub found : table_walk 2048 good Genres ≡ given (full (genre ∷ []) 2)
  -- the sum is P-1; with a table twice it is more
  pub reached : sum_of good (Genres ∷ Artists ∷ Keys ∷ []) ≡ 3
  pub twice : sum_of good (Genres ∷ Artists ∷ Genres ∷ []) ≡ 5
  -- where page 2 is missing, genres wait for it behind page 1
  pub waits : table_walk 2048 good_without_two Genres ≡ given (waiting 2 [] 1)
  pub waits_behind : both_by file_layer good_without_two ≡ (1 ∷ []) ∷ ((3 ∷ []) ∷ [])
  -- what answers carry: all rows with a list that is long enough, and with one that is not (17); a record that is found, and one that is not (18);
  -- a table that is not one of the ten (8)
  pub answers : numbers_in good (all_rows 1 (0 ∷ []) ∷ all_rows 1 [] ∷ one_record 1 0 ∷ one_record 1 1 ∷ all_rows 9 [] ∷ [])
      ≡ some 2 ∷ (none ∷ (none ∷ (none ∷ (none ∷ []))))
  -- and what those carry that wait
  pub answers_waiting : numbers_in good_without_two (all_rows 1 [] ∷ one_record 1 0 ∷ one_text 1 0 0 ∷ []) ≡ some 1 ∷ (some 1 ∷ (some 1 ∷ []))
  -- a walk that comes to a page of another table waits for it, and is refused by 25 when it is held; the pages before it are walked
  pub waits_for_shared : table_walk 2048 shared_without_two Artists ≡ given (waiting 2 [] 1)
  pub refusal : table_walk 2048 shared Artists ≡ refused (fault 25 2)
  pub before : both_by file_layer shared ≡ (1 ∷ 2 ∷ []) ∷ ((3 ∷ []) ∷ [])
  -- both misreadings walk page 2 for genres and for artists, and find the genre among the artists
  pub untyped_walk : walk_by untyped 2048 shared Artists ≡ given (full (genre ∷ []) 2)
  pub untyped_shares : both_by untyped shared ≡ (1 ∷ 2 ∷ []) ∷ ((3 ∷ 2 ∷ []) ∷ [])
  pub typed_first_walk : walk_by typed_first 2048 shared Artists ≡ given (full (genre ∷ []) 2)
  pub typed_first_shares : both_by typed_first shared ≡ (1 ∷ 2 ∷ []) ∷ ((3 ∷ 2 ∷ []) ∷ [])
  -- so their numbers add up to more than P-1, and the statement is false for them
  pub untyped_sum : total (map (λ (t : Table). pages_in_walk (walk_by untyped 2048 shared t)) (Genres ∷ Artists ∷ [])) ≡ 4
  pub not_untyped : Disjoint (walk_by untyped 2048 shared) (pages_by untyped 2048 shared) 4 → ⊥
  pub not_typed_first : Disjoint (walk_by typed_first 2048 shared) (pages_by typed_first 2048 shared) 4 → ⊥
  -- their layers alone make them differ from the walk for a table
  pub same : (len : ℕ) (m : Memory) (table : Table) → walk_by file_layer len m table ≡ table_walk len m table
