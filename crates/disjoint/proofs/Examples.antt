-- The examples hold (specs/Examples), by computation of the definitions.
use mathlib.Core.Path.{◌≡◌, refl, ap}
use mathlib.Core.Bool.{true}
use native.Mathlib.Omega.{arith}
use Prim.Native.Nat.{ℕ}
use Rattle.number.specs.Number.{le16, le24, le32}
use Rattle.lists.specs.Any.{any_from}
use Rattle.lists.specs.Member.{is_member}
use Rattle.format.specs.Place.{linkable}
use Rattle.table.specs.declared.Table.TheVariants.{Genres, Artists}
use Rattle.table.specs.Table.{table_number, table_of, holds_codes}
use Rattle.text.specs.Code.{is_code}
use Rattle.text.specs.Text.{head_size, whole_size, is_inside, plain_text, text_in, read_text}
use Rattle.row.specs.Layout.{artist_layout}
use Rattle.row.specs.Check.{check_texts, check_row}
use Rattle.row.specs.Slot.{slot_text}
use Rattle.page.specs.Header.{number_agrees, type_agrees, rowless, entries, num_rows}
use Rattle.page.specs.Index.{index_size, flags_at, offset_at, present, row_start, present_from}
use Rattle.page.specs.Read.{index_fits, count_agrees, index_good, before_index, row_entries, check_rows, read_page}
use Rattle.intake.specs.Length.{allowed_length}
use Rattle.bitmap.specs.Spare.{spare_bit}
use Rattle.bitmap.specs.Bit.{bit}
use Rattle.intake.specs.Check.{check_lengths, check_call}
use Rattle.intake.specs.Memory.{block_at}
use Rattle.directory.specs.Header.{allowed_page, allowed_tables, has_type, type_twice, tables_hold, header_holds}
use Rattle.directory.specs.Directory.{pointers_from, kept}
use Rattle.directory.specs.Chain.{pointer_among, chain_in, table_chain}
use Rattle.chain.specs.Held.{block_missing, page_held}
use Rattle.chain.specs.File.{page_part, page_next}
use Rattle.chain.specs.Walk.{walk, walk_from}
use Rattle.chain.specs.Reads.{comes_to}
use Rattle.table_walk.specs.Asked.{asked_table}
use Rattle.table_walk.specs.Walk.{table_walk}
use Rattle.export.specs.Rows.{ask_rows}
use Rattle.export.specs.Record.{ask_record}
use Rattle.export.specs.Text.{ask_text}
use Rattle.disjoint.specs.Layers.{Layer, untyped, typed_first}
use Rattle.disjoint.specs.Pages.{passes, walked, walked_from, pages_by}
use Rattle.disjoint.specs.Disjoint.{Disjoint}
use Rattle.disjoint.specs.Examples.{shared, walk_by, Examples}

-- a page for two tables
not_disjoint : (layer : Layer) → is_member 2 (pages_by layer 2048 shared Genres) ≡ true → is_member 2 (pages_by layer 2048 shared Artists) ≡ true
    → Disjoint (walk_by layer 2048 shared) (pages_by layer 2048 shared) 4 → ⊥
not_disjoint layer g a d =
    let one : ◌≡◌ {A = ℕ} 1 2 = ap table_number (d.apart Genres Artists 2 g a) in
    omega arith

pub examples : Examples
unfolding le16 le24 le32 any_from is_member linkable table_of holds_codes head_size whole_size is_inside is_code plain_text text_in read_text
    artist_layout check_texts check_row slot_text number_agrees type_agrees rowless entries num_rows index_size flags_at offset_at present row_start present_from
    index_fits count_agrees index_good before_index row_entries check_rows read_page
    allowed_length spare_bit bit check_lengths check_call block_at allowed_page allowed_tables has_type type_twice tables_hold header_holds
    pointers_from kept pointer_among chain_in table_chain block_missing page_held page_part page_next walk walk_from comes_to
    asked_table table_walk ask_rows ask_record ask_text passes walked walked_from pages_by walk_by
examples =
    record {
      lists = refl;
      found = refl;
      reached = refl;
      twice = refl;
      waits = refl;
      waits_behind = refl;
      answers = refl;
      answers_waiting = refl;
      waits_for_shared = refl;
      refusal = refl;
      before = refl;
      untyped_walk = refl;
      untyped_shares = refl;
      typed_first_walk = refl;
      typed_first_shares = refl;
      untyped_sum = refl;
      not_untyped = not_disjoint untyped refl refl;
      not_typed_first = not_disjoint typed_first refl refl;
      same = λ len m table. refl;
    }
