-- The examples hold (specs/Examples), by computation of the definitions.
use mathlib.Core.Path.{refl}
use Rattle.lists.specs.Example.{ExamplesHold}
use Rattle.number.specs.Number.{le16, le24, le32}
use Rattle.lists.specs.Any.{any_from}
use Rattle.lists.specs.Member.{is_member}
use Rattle.number.specs.Agree.{within}
use Rattle.format.specs.Place.{linkable}
use Rattle.table.specs.Table.{table_of, holds_codes}
use Rattle.text.specs.Zero.{first_zero}
use Rattle.text.specs.Code.{is_code, code_length}
use Rattle.text.specs.Text.{head_size, whole_size, is_inside, plain_text, text_in, read_text}
use Rattle.text.specs.Bytes.{code_byte, text_byte}
use Rattle.row.specs.Layout.{artist_layout}
use Rattle.row.specs.Check.{check_texts, check_row}
use Rattle.row.specs.Slot.{slot_text}
use Rattle.row.specs.Bytes.{slot_byte, subtype_byte, row_byte}
use Rattle.page.specs.Header.{number_agrees, type_agrees, rowless, entries, num_rows}
use Rattle.page.specs.Index.{index_size, flags_at, offset_at, present, row_start, present_from}
use Rattle.page.specs.Read.{index_fits, count_agrees, index_good, before_index, row_entries, check_rows, read_page}
use Rattle.page.specs.OneRow.{is_row}
use Rattle.page.specs.Bytes.{header_byte, flags_byte, offset_byte, row_byte_at, entry_byte, entries_byte, read_byte, named_byte}
use Rattle.intake.specs.Length.{allowed_length}
use Rattle.bitmap.specs.Spare.{spare_bit}
use Rattle.bitmap.specs.Bit.{bit}
use Rattle.intake.specs.Check.{check_lengths, check_call}
use Rattle.intake.specs.Memory.{block_at}
use Rattle.directory.specs.Header.{allowed_page, allowed_tables, has_type, type_twice, tables_hold, header_holds}
use Rattle.directory.specs.Directory.{pointers_from, kept}
use Rattle.directory.specs.Chain.{pointer_among, chain_in, table_chain}
use Rattle.directory.specs.Bytes.{directory_byte}
use Rattle.chain.specs.Held.{block_missing, page_held}
use Rattle.chain.specs.File.{page_part, page_next}
use Rattle.chain.specs.Walk.{walk, walk_from}
use Rattle.chain.specs.Reads.{comes_to, goes_on, reads, reads_from}
use Rattle.listed.specs.Rank.{run_before, rank}
use Rattle.table_walk.specs.Asked.{asked_table}
use Rattle.table_walk.specs.Walk.{table_walk}
use Rattle.table_walk.specs.Reads.{table_reads}
use Rattle.export.specs.Row.{row_part}
use Rattle.export.specs.Rows.{ask_rows}
use Rattle.export.specs.Text.{ask_text}
use Rattle.depend.specs.Bytes.{walked_byte, first_block_byte, table_byte, relevant}
use Rattle.depend.specs.Unread.{in_present_row, in_absent_row, absent_row, unnamed_byte, unread_byte, unread_for}
use Rattle.depend.specs.ListBytes.{element_reads, element_byte, list_byte}
use Rattle.depend.specs.Examples.{examples, CountAnswers, CodeAnswers}

pub examples_hold : ExamplesHold examples
unfolding le16 le24 le32 any_from is_member within linkable head_size whole_size is_inside holds_codes is_code first_zero code_length
    plain_text text_in read_text code_byte text_byte table_of artist_layout check_texts check_row
    slot_byte subtype_byte row_byte number_agrees type_agrees rowless entries num_rows index_size flags_at offset_at present row_start present_from
    index_fits count_agrees index_good before_index row_entries check_rows read_page header_byte flags_byte offset_byte row_byte_at entry_byte entries_byte read_byte
    allowed_length spare_bit bit check_lengths check_call block_at allowed_page allowed_tables has_type type_twice tables_hold header_holds
    pointers_from kept pointer_among chain_in table_chain directory_byte block_missing page_held page_part page_next
    comes_to goes_on reads reads_from asked_table table_reads walked_byte first_block_byte table_byte relevant
    in_present_row in_absent_row absent_row unnamed_byte unread_byte unread_for
    is_row named_byte run_before rank element_reads element_byte list_byte
examples_hold = refl

pub count_answers : CountAnswers
unfolding le16 le24 le32 any_from is_member linkable head_size whole_size is_inside is_code plain_text text_in read_text table_of check_texts check_row
    number_agrees type_agrees rowless entries num_rows index_size flags_at offset_at present row_start present_from
    index_fits count_agrees index_good before_index row_entries check_rows read_page
    allowed_length spare_bit bit check_lengths check_call block_at allowed_page allowed_tables has_type type_twice tables_hold header_holds
    pointers_from kept pointer_among chain_in table_chain block_missing page_held page_part page_next walk walk_from asked_table table_walk ask_rows
count_answers = record { unchanged = refl; behind = λ _ _. refl; more = refl; none = refl; fewer = refl }

pub code_answers : CodeAnswers
unfolding le16 le24 le32 any_from is_member linkable head_size whole_size is_inside holds_codes is_code first_zero code_length
    plain_text text_in read_text table_of check_texts check_row slot_text
    number_agrees type_agrees rowless entries num_rows index_size flags_at offset_at present row_start present_from index_fits count_agrees index_good before_index row_entries check_rows read_page
    allowed_length spare_bit bit check_lengths check_call block_at allowed_page allowed_tables has_type type_twice tables_hold header_holds
    pointers_from kept pointer_among chain_in table_chain block_missing page_held page_part page_next walk walk_from asked_table table_walk row_part ask_text
code_answers = record { unchanged = refl; behind = λ _. refl; last = λ _. refl; zero_byte = refl; no_code = refl }
