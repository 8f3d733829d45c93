-- The directory: page length, number of pages and table pointers of a file, as one value.
-- Rules 3.8 to 3.10. Rests on the header's fields (specs/Header).
use Rattle.std.specs.Prelude.{Option, Some, None, cond, List, [], ◌∷◌, ◌++◌, ℕ, zero, suc, ◌+◌, ◌-◌, ◌/◌, replicate}
use Rattle.lists.specs.Alias.{Bytes}
use Rattle.directory.specs.declared.Pointer.{Pointer}
use Rattle.directory.specs.declared.Directory.{Directory}
use Rattle.directory.specs.Header.{len_page, num_tables, type, empty_candidate, first_page, last_page, header_holds}

abbrev pub pointer_in : Bytes → ℕ → Pointer
pointer_in block i =
    record {
      table_type = type block i;
      empty_candidate = empty_candidate block i;
      first_page = first_page block i;
      last_page = last_page block i;
    }

-- the k pointers from i on
unfoldable pub pointers_from : (block : Bytes) (k i : ℕ) → List Pointer
pointers_from block zero i = []
pointers_from block (suc k) i = pointer_in block i ∷ pointers_from block k (i + 1)

-- a place of the array that holds no pointer
abbrev pub no_pointer : Pointer
no_pointer = record { table_type = 0; empty_candidate = 0; first_page = 0; last_page = 0 }

-- Rule 3.9: the array of 30, the file's pointers and then zeros
unfoldable pub kept : Bytes → ℕ → List Pointer
kept block n = pointers_from block n 0 ++ replicate (30 - n) no_pointer

-- Rule 3.10: P is the length over the page length
abbrev pub file_directory : ℕ → Bytes → Directory
file_directory len block =
    record {
      len_page = len_page block;
      page_count = len / len_page block;
      count = num_tables block;
      pointers = kept block (num_tables block);
    }

abbrev pub no_directory : Directory
no_directory = record { len_page = 0; page_count = 0; count = 0; pointers = replicate 30 no_pointer }

-- the directory, where the header is not broken
unfoldable pub read_header : ℕ → Bytes → Option Directory
read_header len block = cond (header_holds len block) (Some (file_directory len block)) None
