-- Written by tools/make-row-examples from tests/cases/conformance/data/examples.txt.
use Rattle.std.specs.Prelude.{refl}
use Rattle.block_buffers.specs.Entries.{start, holds, moved_front, entry_at, slot_of, assigned, front_marked, has_updated, first_updated, unassigned}
use Rattle.plain_rows.specs.Table.{row_in, control, stack, cells, doubles, memory}
use Rattle.machine_parts.specs.Row.{room_r, room, takes_r1, takes1, takes2, takes_r3, takes_r4, takes3, takes4, takes6}
use Rattle.memory.specs.Bytes.{byte, cell, put_byte, put_cell, limit_of, put_bytes, cell_bytes, moved_up, moved_down, filled, bytes, written, with_page, page, front_put}
use Rattle.cells.specs.Cell.{crosses, floor_quotient, can_divide, floor_remainder, um_can_divide}
use Rattle.dictionary.specs.Header.{count_byte, name_length, compilation_address, is_hidden, name_of, is_named, is_immediate}
use Rattle.dictionary.specs.Laying.{fits, laid_at}
use Rattle.plain_rows.specs.MemoryRows.{trimmed}
use Rattle.primitives.specs.Blocks.{has_block, without_block}
use Rattle.primitives.specs.Devices.{saves_victim, saves}
use Rattle.primitives.specs.Table.{devices, numbers, input, compiling, editor, row}
use Rattle.number_text.specs.Picture.{pad, opened, held, with_digit, with_digits, signed_picture}
use Rattle.number_text.specs.Base.{has_base}
use Rattle.number_text.specs.Digits.{expansion, value, digit, text_value, continued, is_digit, leading_digits, are_digits}
use Rattle.number_text.specs.Conversion.{digits_behind, address_behind}
use Rattle.primitives.specs.Streams.{has_stream, stream_buffers}
use Rattle.input_source.specs.Streams.{stream_at, stream_size}
use Rattle.input_source.specs.Words.{next_delimiter, word_start, word_in, bytes_in, parsed_in}
use Rattle.input_source.specs.Placing.{counted, with_word}
use Rattle.primitives.specs.Names.{searches, counted_string, forgets}
use Rattle.dictionary.specs.Chain.{chain, is_longer}
use Rattle.dictionary.specs.Search.{walked, head_of, first_in, first_from, sought_from, sought, sought_in}
use Rattle.primitives.specs.DictionaryRows.{leaves_past, creates}
use Rattle.number_text.specs.Numbers.{is_minus, has_dot, number_value, is_number, is_double}
use Rattle.primitives.specs.Interpret.{compiles_past}
use Rattle.dictionary.specs.Adding.{header_bytes, site_of, record_bytes}
use Rattle.dictionary.specs.Newest.{newest_count, made_immediate, with_immediate, revealed}
use Rattle.dictionary.specs.Order.{records, members, members_of, all_members, reached, is_beyond_limit}
use Rattle.dictionary.specs.Forgetting.{target, first_below, kept_record, cut_vocabulary, cuts}
use Rattle.primitives.specs.Compiling.{compiles, resolves}
use Rattle.compiling_words.specs.Laying.{can_allot}
use Rattle.primitives.specs.Defining.{lays_past}
use Rattle.compiling_words.specs.Code.{text_code}
use Rattle.block_buffers.specs.Screens.{with_line, line_inserted, blank_line, line_deleted, blank_screen}
use Rattle.primitives.specs.Editor.{line_text}
use Rattle.row_examples.specs.Control.{ControlExamples}
use Rattle.row_examples.specs.Stack.{StackExamples}
use Rattle.row_examples.specs.Cell.{CellExamples}
use Rattle.row_examples.specs.Double.{DoubleExamples}
use Rattle.row_examples.specs.MemoryRows.{MemoryRowsExamples}
use Rattle.row_examples.specs.Devices.{DevicesExamples}
use Rattle.row_examples.specs.Numbers.{NumbersExamples}
use Rattle.row_examples.specs.Input.{InputExamples}
use Rattle.row_examples.specs.Compiling.{CompilingExamples}
use Rattle.row_examples.specs.Editor.{EditorExamples}

pub hold_control : ControlExamples
unfolding start holds moved_front entry_at slot_of assigned front_marked has_updated first_updated unassigned row_in control stack cells doubles memory room_r room takes_r1 takes1 takes2 takes_r3 takes_r4 takes3 takes4 takes6 byte cell put_byte put_cell limit_of put_bytes cell_bytes moved_up moved_down filled bytes written with_page page front_put crosses floor_quotient can_divide floor_remainder um_can_divide count_byte name_length compilation_address is_hidden name_of is_named is_immediate fits laid_at trimmed has_block without_block saves_victim saves devices numbers input compiling editor row pad opened held with_digit with_digits signed_picture has_base expansion value digit text_value continued is_digit leading_digits are_digits digits_behind address_behind has_stream stream_buffers stream_at stream_size next_delimiter word_start word_in bytes_in parsed_in counted with_word searches counted_string forgets chain is_longer walked head_of first_in first_from sought_from sought sought_in leaves_past creates is_minus has_dot number_value is_number is_double compiles_past header_bytes site_of record_bytes newest_count made_immediate with_immediate revealed records members members_of all_members reached is_beyond_limit target first_below kept_record cut_vocabulary cuts compiles resolves can_allot lays_past text_code with_line line_inserted blank_line line_deleted blank_screen line_text
hold_control = record {
  colon_code_1 = λ w s. refl;
  colon_code_2 = λ w s. refl;
  variable_code_1 = λ w s. refl;
  variable_code_2 = λ w s. refl;
  constant_code_1 = λ w s. refl;
  constant_code_2 = λ w s. refl;
  vocabulary_code_1 = λ w s. refl;
  exit_1 = λ w s. refl;
  exit_2 = λ w s. refl;
  lit_1 = λ w s. refl;
  lit_2 = λ w s. refl;
  branch_1 = λ w s. refl;
  zero_branch_1 = λ w s. refl;
  zero_branch_2 = λ w s. refl;
  zero_branch_3 = λ w s. refl;
  begin_loop_1 = λ w s. refl;
  begin_loop_2 = λ w s. refl;
  begin_loop_3 = λ w s. refl;
  next_loop_1 = λ w s. refl;
  next_loop_2 = λ w s. refl;
  next_loop_3 = λ w s. refl;
  step_loop_1 = λ w s. refl;
  step_loop_2 = λ w s. refl;
  step_loop_3 = λ w s. refl;
  step_loop_4 = λ w s. refl;
  leave_loop_1 = λ w s. refl;
  leave_loop_2 = λ w s. refl;
  index_1 = λ w s. refl;
  index_2 = λ w s. refl;
  outer_index_1 = λ w s. refl;
  outer_index_2 = λ w s. refl;
  execute_1 = λ w s. refl;
  execute_2 = λ w s. refl;
  show_inline_1 = λ w s. refl;
  show_inline_2 = λ w s. refl;
  abort_inline_1 = λ w s. refl;
  abort_inline_2 = λ w s. refl;
  run_does_1 = λ w s. refl;
  compile_1 = λ w s. refl;
  to_r_1 = λ w s. refl;
  to_r_2 = λ w s. refl;
  from_r_1 = λ w s. refl;
  from_r_2 = λ w s. refl;
  r_fetch_1 = λ w s. refl;
  r_fetch_2 = λ w s. refl;
  bye_1 = λ w s. refl;
  r_clear_1 = λ w s. refl;
  s_clear_1 = λ w s. refl;
  raise_1 = λ w s. refl;
  raise_2 = λ w s. refl;
  noop_1 = λ w s. refl;
  colon_code_3 = λ w s. refl;
  variable_code_3 = λ w s. refl;
  constant_code_3 = λ w s. refl;
  vocabulary_code_2 = λ w s. refl;
  vocabulary_code_3 = λ w s. refl;
  exit_3 = λ w s. refl;
  lit_3 = λ w s. refl;
  branch_2 = λ w s. refl;
  branch_3 = λ w s. refl;
  leave_loop_3 = λ w s. refl;
  index_3 = λ w s. refl;
  outer_index_3 = λ w s. refl;
  execute_3 = λ w s. refl;
  show_inline_3 = λ w s. refl;
  abort_inline_3 = λ w s. refl;
  run_does_2 = λ w s. refl;
  run_does_3 = λ w s. refl;
  compile_2 = λ w s. refl;
  compile_3 = λ w s. refl;
  to_r_3 = λ w s. refl;
  from_r_3 = λ w s. refl;
  r_fetch_3 = λ w s. refl;
  bye_2 = λ w s. refl;
  bye_3 = λ w s. refl;
  r_clear_2 = λ w s. refl;
  r_clear_3 = λ w s. refl;
  s_clear_2 = λ w s. refl;
  s_clear_3 = λ w s. refl;
  raise_3 = λ w s. refl;
  noop_2 = λ w s. refl;
  noop_3 = λ w s. refl;
}

pub hold_stack : StackExamples
unfolding start holds moved_front entry_at slot_of assigned front_marked has_updated first_updated unassigned row_in control stack cells doubles memory room_r room takes_r1 takes1 takes2 takes_r3 takes_r4 takes3 takes4 takes6 byte cell put_byte put_cell limit_of put_bytes cell_bytes moved_up moved_down filled bytes written with_page page front_put crosses floor_quotient can_divide floor_remainder um_can_divide count_byte name_length compilation_address is_hidden name_of is_named is_immediate fits laid_at trimmed has_block without_block saves_victim saves devices numbers input compiling editor row pad opened held with_digit with_digits signed_picture has_base expansion value digit text_value continued is_digit leading_digits are_digits digits_behind address_behind has_stream stream_buffers stream_at stream_size next_delimiter word_start word_in bytes_in parsed_in counted with_word searches counted_string forgets chain is_longer walked head_of first_in first_from sought_from sought sought_in leaves_past creates is_minus has_dot number_value is_number is_double compiles_past header_bytes site_of record_bytes newest_count made_immediate with_immediate revealed records members members_of all_members reached is_beyond_limit target first_below kept_record cut_vocabulary cuts compiles resolves can_allot lays_past text_code with_line line_inserted blank_line line_deleted blank_screen line_text
hold_stack = record {
  dup_1 = λ w s. refl;
  dup_2 = λ w s. refl;
  dup_3 = λ w s. refl;
  drop_cell_1 = λ w s. refl;
  drop_cell_2 = λ w s. refl;
  swap_1 = λ w s. refl;
  swap_2 = λ w s. refl;
  swap_3 = λ w s. refl;
  over_1 = λ w s. refl;
  over_2 = λ w s. refl;
  rot_1 = λ w s. refl;
  rot_2 = λ w s. refl;
  rot_3 = λ w s. refl;
  pick_1 = λ w s. refl;
  pick_2 = λ w s. refl;
  pick_3 = λ w s. refl;
  roll_1 = λ w s. refl;
  roll_2 = λ w s. refl;
  roll_3 = λ w s. refl;
  question_dup_1 = λ w s. refl;
  question_dup_2 = λ w s. refl;
  question_dup_3 = λ w s. refl;
  depth_1 = λ w s. refl;
  depth_2 = λ w s. refl;
  two_drop_1 = λ w s. refl;
  two_drop_2 = λ w s. refl;
  two_dup_1 = λ w s. refl;
  two_dup_2 = λ w s. refl;
  two_over_1 = λ w s. refl;
  two_over_2 = λ w s. refl;
  two_rot_1 = λ w s. refl;
  two_rot_2 = λ w s. refl;
  two_swap_1 = λ w s. refl;
  two_swap_2 = λ w s. refl;
  drop_cell_3 = λ w s. refl;
  over_3 = λ w s. refl;
  depth_3 = λ w s. refl;
  two_drop_3 = λ w s. refl;
  two_dup_3 = λ w s. refl;
  two_over_3 = λ w s. refl;
  two_rot_3 = λ w s. refl;
  two_swap_3 = λ w s. refl;
}

pub hold_cell : CellExamples
unfolding start holds moved_front entry_at slot_of assigned front_marked has_updated first_updated unassigned row_in control stack cells doubles memory room_r room takes_r1 takes1 takes2 takes_r3 takes_r4 takes3 takes4 takes6 byte cell put_byte put_cell limit_of put_bytes cell_bytes moved_up moved_down filled bytes written with_page page front_put crosses floor_quotient can_divide floor_remainder um_can_divide count_byte name_length compilation_address is_hidden name_of is_named is_immediate fits laid_at trimmed has_block without_block saves_victim saves devices numbers input compiling editor row pad opened held with_digit with_digits signed_picture has_base expansion value digit text_value continued is_digit leading_digits are_digits digits_behind address_behind has_stream stream_buffers stream_at stream_size next_delimiter word_start word_in bytes_in parsed_in counted with_word searches counted_string forgets chain is_longer walked head_of first_in first_from sought_from sought sought_in leaves_past creates is_minus has_dot number_value is_number is_double compiles_past header_bytes site_of record_bytes newest_count made_immediate with_immediate revealed records members members_of all_members reached is_beyond_limit target first_below kept_record cut_vocabulary cuts compiles resolves can_allot lays_past text_code with_line line_inserted blank_line line_deleted blank_screen line_text
hold_cell = record {
  plus_1 = λ w s. refl;
  plus_2 = λ w s. refl;
  plus_3 = λ w s. refl;
  minus_1 = λ w s. refl;
  minus_2 = λ w s. refl;
  times_1 = λ w s. refl;
  times_2 = λ w s. refl;
  slash_1 = λ w s. refl;
  slash_2 = λ w s. refl;
  slash_3 = λ w s. refl;
  modulo_1 = λ w s. refl;
  modulo_2 = λ w s. refl;
  modulo_3 = λ w s. refl;
  slash_mod_1 = λ w s. refl;
  slash_mod_2 = λ w s. refl;
  slash_mod_3 = λ w s. refl;
  times_slash_1 = λ w s. refl;
  times_slash_2 = λ w s. refl;
  times_slash_3 = λ w s. refl;
  times_slash_mod_1 = λ w s. refl;
  times_slash_mod_2 = λ w s. refl;
  times_slash_mod_3 = λ w s. refl;
  one_plus_1 = λ w s. refl;
  one_plus_2 = λ w s. refl;
  one_minus_1 = λ w s. refl;
  one_minus_2 = λ w s. refl;
  two_plus_1 = λ w s. refl;
  two_plus_2 = λ w s. refl;
  two_minus_1 = λ w s. refl;
  two_minus_2 = λ w s. refl;
  two_times_1 = λ w s. refl;
  two_times_2 = λ w s. refl;
  two_slash_1 = λ w s. refl;
  two_slash_2 = λ w s. refl;
  two_slash_3 = λ w s. refl;
  negate_1 = λ w s. refl;
  negate_2 = λ w s. refl;
  absolute_1 = λ w s. refl;
  absolute_2 = λ w s. refl;
  absolute_3 = λ w s. refl;
  min_1 = λ w s. refl;
  min_2 = λ w s. refl;
  max_1 = λ w s. refl;
  max_2 = λ w s. refl;
  and_1 = λ w s. refl;
  and_2 = λ w s. refl;
  or_1 = λ w s. refl;
  or_2 = λ w s. refl;
  xor_1 = λ w s. refl;
  xor_2 = λ w s. refl;
  turned_1 = λ w s. refl;
  turned_2 = λ w s. refl;
  equals_1 = λ w s. refl;
  equals_2 = λ w s. refl;
  differs_1 = λ w s. refl;
  differs_2 = λ w s. refl;
  less_1 = λ w s. refl;
  less_2 = λ w s. refl;
  less_3 = λ w s. refl;
  greater_1 = λ w s. refl;
  greater_2 = λ w s. refl;
  u_less_1 = λ w s. refl;
  u_less_2 = λ w s. refl;
  zero_equals_1 = λ w s. refl;
  zero_equals_2 = λ w s. refl;
  zero_less_1 = λ w s. refl;
  zero_less_2 = λ w s. refl;
  zero_greater_1 = λ w s. refl;
  zero_greater_2 = λ w s. refl;
  zero_greater_3 = λ w s. refl;
  um_times_1 = λ w s. refl;
  um_times_2 = λ w s. refl;
  um_slash_mod_1 = λ w s. refl;
  um_slash_mod_2 = λ w s. refl;
  um_slash_mod_3 = λ w s. refl;
  minus_3 = λ w s. refl;
  times_3 = λ w s. refl;
  one_plus_3 = λ w s. refl;
  one_minus_3 = λ w s. refl;
  two_plus_3 = λ w s. refl;
  two_minus_3 = λ w s. refl;
  two_times_3 = λ w s. refl;
  negate_3 = λ w s. refl;
  min_3 = λ w s. refl;
  max_3 = λ w s. refl;
  and_3 = λ w s. refl;
  or_3 = λ w s. refl;
  xor_3 = λ w s. refl;
  turned_3 = λ w s. refl;
  equals_3 = λ w s. refl;
  differs_3 = λ w s. refl;
  greater_3 = λ w s. refl;
  u_less_3 = λ w s. refl;
  zero_equals_3 = λ w s. refl;
  zero_less_3 = λ w s. refl;
  um_times_3 = λ w s. refl;
}

pub hold_double : DoubleExamples
unfolding start holds moved_front entry_at slot_of assigned front_marked has_updated first_updated unassigned row_in control stack cells doubles memory room_r room takes_r1 takes1 takes2 takes_r3 takes_r4 takes3 takes4 takes6 byte cell put_byte put_cell limit_of put_bytes cell_bytes moved_up moved_down filled bytes written with_page page front_put crosses floor_quotient can_divide floor_remainder um_can_divide count_byte name_length compilation_address is_hidden name_of is_named is_immediate fits laid_at trimmed has_block without_block saves_victim saves devices numbers input compiling editor row pad opened held with_digit with_digits signed_picture has_base expansion value digit text_value continued is_digit leading_digits are_digits digits_behind address_behind has_stream stream_buffers stream_at stream_size next_delimiter word_start word_in bytes_in parsed_in counted with_word searches counted_string forgets chain is_longer walked head_of first_in first_from sought_from sought sought_in leaves_past creates is_minus has_dot number_value is_number is_double compiles_past header_bytes site_of record_bytes newest_count made_immediate with_immediate revealed records members members_of all_members reached is_beyond_limit target first_below kept_record cut_vocabulary cuts compiles resolves can_allot lays_past text_code with_line line_inserted blank_line line_deleted blank_screen line_text
hold_double = record {
  d_plus_1 = λ w s. refl;
  d_plus_2 = λ w s. refl;
  d_plus_3 = λ w s. refl;
  d_minus_1 = λ w s. refl;
  d_minus_2 = λ w s. refl;
  d_negate_1 = λ w s. refl;
  d_negate_2 = λ w s. refl;
  d_absolute_1 = λ w s. refl;
  d_absolute_2 = λ w s. refl;
  d_two_slash_1 = λ w s. refl;
  d_two_slash_2 = λ w s. refl;
  d_two_slash_3 = λ w s. refl;
  d_min_1 = λ w s. refl;
  d_min_2 = λ w s. refl;
  d_max_1 = λ w s. refl;
  d_max_2 = λ w s. refl;
  d_equals_1 = λ w s. refl;
  d_equals_2 = λ w s. refl;
  d_zero_equals_1 = λ w s. refl;
  d_zero_equals_2 = λ w s. refl;
  d_less_1 = λ w s. refl;
  d_less_2 = λ w s. refl;
  d_less_3 = λ w s. refl;
  du_less_1 = λ w s. refl;
  du_less_2 = λ w s. refl;
  d_minus_3 = λ w s. refl;
  d_negate_3 = λ w s. refl;
  d_absolute_3 = λ w s. refl;
  d_min_3 = λ w s. refl;
  d_max_3 = λ w s. refl;
  d_equals_3 = λ w s. refl;
  d_zero_equals_3 = λ w s. refl;
  du_less_3 = λ w s. refl;
}

pub hold_memoryrows : MemoryRowsExamples
unfolding start holds moved_front entry_at slot_of assigned front_marked has_updated first_updated unassigned row_in control stack cells doubles memory room_r room takes_r1 takes1 takes2 takes_r3 takes_r4 takes3 takes4 takes6 byte cell put_byte put_cell limit_of put_bytes cell_bytes moved_up moved_down filled bytes written with_page page front_put crosses floor_quotient can_divide floor_remainder um_can_divide count_byte name_length compilation_address is_hidden name_of is_named is_immediate fits laid_at trimmed has_block without_block saves_victim saves devices numbers input compiling editor row pad opened held with_digit with_digits signed_picture has_base expansion value digit text_value continued is_digit leading_digits are_digits digits_behind address_behind has_stream stream_buffers stream_at stream_size next_delimiter word_start word_in bytes_in parsed_in counted with_word searches counted_string forgets chain is_longer walked head_of first_in first_from sought_from sought sought_in leaves_past creates is_minus has_dot number_value is_number is_double compiles_past header_bytes site_of record_bytes newest_count made_immediate with_immediate revealed records members members_of all_members reached is_beyond_limit target first_below kept_record cut_vocabulary cuts compiles resolves can_allot lays_past text_code with_line line_inserted blank_line line_deleted blank_screen line_text
hold_memoryrows = record {
  fetch_1 = λ w s. refl;
  fetch_2 = λ w s. refl;
  fetch_3 = λ w s. refl;
  store_1 = λ w s. refl;
  store_2 = λ w s. refl;
  c_fetch_1 = λ w s. refl;
  c_fetch_2 = λ w s. refl;
  c_store_1 = λ w s. refl;
  c_store_2 = λ w s. refl;
  plus_store_1 = λ w s. refl;
  plus_store_2 = λ w s. refl;
  two_fetch_1 = λ w s. refl;
  two_fetch_2 = λ w s. refl;
  two_store_1 = λ w s. refl;
  two_store_2 = λ w s. refl;
  cmove_1 = λ w s. refl;
  cmove_2 = λ w s. refl;
  cmove_down_1 = λ w s. refl;
  cmove_down_2 = λ w s. refl;
  fill_1 = λ w s. refl;
  fill_2 = λ w s. refl;
  count_1 = λ w s. refl;
  count_2 = λ w s. refl;
  dash_trailing_1 = λ w s. refl;
  dash_trailing_2 = λ w s. refl;
  dash_trailing_3 = λ w s. refl;
  store_3 = λ w s. refl;
  c_fetch_3 = λ w s. refl;
  c_store_3 = λ w s. refl;
  plus_store_3 = λ w s. refl;
  two_fetch_3 = λ w s. refl;
  two_store_3 = λ w s. refl;
  cmove_3 = λ w s. refl;
  cmove_down_3 = λ w s. refl;
  fill_3 = λ w s. refl;
  count_3 = λ w s. refl;
}

pub hold_devices : DevicesExamples
unfolding start holds moved_front entry_at slot_of assigned front_marked has_updated first_updated unassigned row_in control stack cells doubles memory room_r room takes_r1 takes1 takes2 takes_r3 takes_r4 takes3 takes4 takes6 byte cell put_byte put_cell limit_of put_bytes cell_bytes moved_up moved_down filled bytes written with_page page front_put crosses floor_quotient can_divide floor_remainder um_can_divide count_byte name_length compilation_address is_hidden name_of is_named is_immediate fits laid_at trimmed has_block without_block saves_victim saves devices numbers input compiling editor row pad opened held with_digit with_digits signed_picture has_base expansion value digit text_value continued is_digit leading_digits are_digits digits_behind address_behind has_stream stream_buffers stream_at stream_size next_delimiter word_start word_in bytes_in parsed_in counted with_word searches counted_string forgets chain is_longer walked head_of first_in first_from sought_from sought sought_in leaves_past creates is_minus has_dot number_value is_number is_double compiles_past header_bytes site_of record_bytes newest_count made_immediate with_immediate revealed records members members_of all_members reached is_beyond_limit target first_below kept_record cut_vocabulary cuts compiles resolves can_allot lays_past text_code with_line line_inserted blank_line line_deleted blank_screen line_text
hold_devices = record {
  block_1 = λ w s. refl;
  block_2 = λ w s. refl;
  block_3 = λ w s. refl;
  buffer_1 = λ w s. refl;
  buffer_2 = λ w s. refl;
  update_1 = λ w s. refl;
  save_buffers_1 = λ w s. refl;
  flush_1 = λ w s. refl;
  empty_buffers_1 = λ w s. refl;
  key_1 = λ w s. refl;
  expect_1 = λ w s. refl;
  expect_2 = λ w s. refl;
  emit_1 = λ w s. refl;
  emit_2 = λ w s. refl;
  type_out_1 = λ w s. refl;
  type_out_2 = λ w s. refl;
  buffer_3 = λ w s. refl;
  update_2 = λ w s. refl;
  update_3 = λ w s. refl;
  save_buffers_2 = λ w s. refl;
  save_buffers_3 = λ w s. refl;
  flush_2 = λ w s. refl;
  flush_3 = λ w s. refl;
  empty_buffers_2 = λ w s. refl;
  empty_buffers_3 = λ w s. refl;
  key_2 = λ w s. refl;
  key_3 = λ w s. refl;
  expect_3 = λ w s. refl;
  emit_3 = λ w s. refl;
  type_out_3 = λ w s. refl;
}

pub hold_numbers : NumbersExamples
unfolding start holds moved_front entry_at slot_of assigned front_marked has_updated first_updated unassigned row_in control stack cells doubles memory room_r room takes_r1 takes1 takes2 takes_r3 takes_r4 takes3 takes4 takes6 byte cell put_byte put_cell limit_of put_bytes cell_bytes moved_up moved_down filled bytes written with_page page front_put crosses floor_quotient can_divide floor_remainder um_can_divide count_byte name_length compilation_address is_hidden name_of is_named is_immediate fits laid_at trimmed has_block without_block saves_victim saves devices numbers input compiling editor row pad opened held with_digit with_digits signed_picture has_base expansion value digit text_value continued is_digit leading_digits are_digits digits_behind address_behind has_stream stream_buffers stream_at stream_size next_delimiter word_start word_in bytes_in parsed_in counted with_word searches counted_string forgets chain is_longer walked head_of first_in first_from sought_from sought sought_in leaves_past creates is_minus has_dot number_value is_number is_double compiles_past header_bytes site_of record_bytes newest_count made_immediate with_immediate revealed records members members_of all_members reached is_beyond_limit target first_below kept_record cut_vocabulary cuts compiles resolves can_allot lays_past text_code with_line line_inserted blank_line line_deleted blank_screen line_text
hold_numbers = record {
  open_picture_1 = λ w s. refl;
  picture_digit_1 = λ w s. refl;
  picture_digit_2 = λ w s. refl;
  picture_digit_3 = λ w s. refl;
  picture_digits_1 = λ w s. refl;
  picture_digits_2 = λ w s. refl;
  close_picture_1 = λ w s. refl;
  hold_1 = λ w s. refl;
  sign_1 = λ w s. refl;
  sign_2 = λ w s. refl;
  convert_1 = λ w s. refl;
  convert_2 = λ w s. refl;
  open_picture_2 = λ w s. refl;
  open_picture_3 = λ w s. refl;
  picture_digits_3 = λ w s. refl;
  close_picture_2 = λ w s. refl;
  close_picture_3 = λ w s. refl;
  hold_2 = λ w s. refl;
  hold_3 = λ w s. refl;
  sign_3 = λ w s. refl;
  convert_3 = λ w s. refl;
}

pub hold_input : InputExamples
unfolding start holds moved_front entry_at slot_of assigned front_marked has_updated first_updated unassigned row_in control stack cells doubles memory room_r room takes_r1 takes1 takes2 takes_r3 takes_r4 takes3 takes4 takes6 byte cell put_byte put_cell limit_of put_bytes cell_bytes moved_up moved_down filled bytes written with_page page front_put crosses floor_quotient can_divide floor_remainder um_can_divide count_byte name_length compilation_address is_hidden name_of is_named is_immediate fits laid_at trimmed has_block without_block saves_victim saves devices numbers input compiling editor row pad opened held with_digit with_digits signed_picture has_base expansion value digit text_value continued is_digit leading_digits are_digits digits_behind address_behind has_stream stream_buffers stream_at stream_size next_delimiter word_start word_in bytes_in parsed_in counted with_word searches counted_string forgets chain is_longer walked head_of first_in first_from sought_from sought sought_in leaves_past creates is_minus has_dot number_value is_number is_double compiles_past header_bytes site_of record_bytes newest_count made_immediate with_immediate revealed records members members_of all_members reached is_beyond_limit target first_below kept_record cut_vocabulary cuts compiles resolves can_allot lays_past text_code with_line line_inserted blank_line line_deleted blank_screen line_text
hold_input = record {
  word_1 = λ w s. refl;
  word_2 = λ w s. refl;
  paren_1 = λ w s. refl;
  paren_2 = λ w s. refl;
  dot_paren_1 = λ w s. refl;
  create_1 = λ w s. refl;
  create_2 = λ w s. refl;
  immediate_1 = λ w s. refl;
  to_body_1 = λ w s. refl;
  to_body_2 = λ w s. refl;
  here_1 = λ w s. refl;
  pad_row_1 = λ w s. refl;
  definitions_1 = λ w s. refl;
  vocabulary_1 = λ w s. refl;
  find_1 = λ w s. refl;
  find_2 = λ w s. refl;
  find_3 = λ w s. refl;
  tick_1 = λ w s. refl;
  interpret_1 = λ w s. refl;
  forget_1 = λ w s. refl;
  forget_2 = λ w s. refl;
  interpret_2 = λ w s. refl;
  tick_2 = λ w s. refl;
  interpret_3 = λ w s. refl;
  word_3 = λ w s. refl;
  paren_3 = λ w s. refl;
  dot_paren_2 = λ w s. refl;
  dot_paren_3 = λ w s. refl;
  forget_3 = λ w s. refl;
  tick_3 = λ w s. refl;
  create_3 = λ w s. refl;
  vocabulary_2 = λ w s. refl;
  vocabulary_3 = λ w s. refl;
  immediate_2 = λ w s. refl;
  immediate_3 = λ w s. refl;
  to_body_3 = λ w s. refl;
  here_2 = λ w s. refl;
  pad_row_2 = λ w s. refl;
  here_3 = λ w s. refl;
  pad_row_3 = λ w s. refl;
  definitions_2 = λ w s. refl;
  definitions_3 = λ w s. refl;
}

pub hold_compiling : CompilingExamples
unfolding start holds moved_front entry_at slot_of assigned front_marked has_updated first_updated unassigned row_in control stack cells doubles memory room_r room takes_r1 takes1 takes2 takes_r3 takes_r4 takes3 takes4 takes6 byte cell put_byte put_cell limit_of put_bytes cell_bytes moved_up moved_down filled bytes written with_page page front_put crosses floor_quotient can_divide floor_remainder um_can_divide count_byte name_length compilation_address is_hidden name_of is_named is_immediate fits laid_at trimmed has_block without_block saves_victim saves devices numbers input compiling editor row pad opened held with_digit with_digits signed_picture has_base expansion value digit text_value continued is_digit leading_digits are_digits digits_behind address_behind has_stream stream_buffers stream_at stream_size next_delimiter word_start word_in bytes_in parsed_in counted with_word searches counted_string forgets chain is_longer walked head_of first_in first_from sought_from sought sought_in leaves_past creates is_minus has_dot number_value is_number is_double compiles_past header_bytes site_of record_bytes newest_count made_immediate with_immediate revealed records members members_of all_members reached is_beyond_limit target first_below kept_record cut_vocabulary cuts compiles resolves can_allot lays_past text_code with_line line_inserted blank_line line_deleted blank_screen line_text
hold_compiling = record {
  bracket_tick_1 = λ w s. refl;
  bracket_compile_1 = λ w s. refl;
  colon_1 = λ w s. refl;
  semicolon_1 = λ w s. refl;
  left_bracket_1 = λ w s. refl;
  right_bracket_1 = λ w s. refl;
  comma_1 = λ w s. refl;
  c_comma_1 = λ w s. refl;
  allot_1 = λ w s. refl;
  allot_2 = λ w s. refl;
  begin_1 = λ w s. refl;
  mark_back_1 = λ w s. refl;
  resolve_back_1 = λ w s. refl;
  mark_forward_1 = λ w s. refl;
  then_row_1 = λ w s. refl;
  resolve_forward_1 = λ w s. refl;
  literal_1 = λ w s. refl;
  compile_does_1 = λ w s. refl;
  if_row_1 = λ w s. refl;
  while_row_1 = λ w s. refl;
  until_1 = λ w s. refl;
  else_row_1 = λ w s. refl;
  repeat_1 = λ w s. refl;
  again_1 = λ w s. refl;
  do_row_1 = λ w s. refl;
  loop_row_1 = λ w s. refl;
  plus_loop_1 = λ w s. refl;
  dot_quote_1 = λ w s. refl;
  abort_quote_1 = λ w s. refl;
  constant_1 = λ w s. refl;
  variable_1 = λ w s. refl;
  bracket_tick_2 = λ w s. refl;
  bracket_compile_2 = λ w s. refl;
  bracket_tick_3 = λ w s. refl;
  bracket_compile_3 = λ w s. refl;
  colon_2 = λ w s. refl;
  constant_2 = λ w s. refl;
  variable_2 = λ w s. refl;
  colon_3 = λ w s. refl;
  constant_3 = λ w s. refl;
  variable_3 = λ w s. refl;
  semicolon_2 = λ w s. refl;
  left_bracket_2 = λ w s. refl;
  left_bracket_3 = λ w s. refl;
  right_bracket_2 = λ w s. refl;
  right_bracket_3 = λ w s. refl;
  semicolon_3 = λ w s. refl;
  comma_2 = λ w s. refl;
  compile_does_2 = λ w s. refl;
  resolve_back_2 = λ w s. refl;
  mark_forward_2 = λ w s. refl;
  c_comma_2 = λ w s. refl;
  allot_3 = λ w s. refl;
  literal_2 = λ w s. refl;
  if_row_2 = λ w s. refl;
  else_row_2 = λ w s. refl;
  until_2 = λ w s. refl;
  while_row_2 = λ w s. refl;
  repeat_2 = λ w s. refl;
  again_2 = λ w s. refl;
  do_row_2 = λ w s. refl;
  loop_row_2 = λ w s. refl;
  plus_loop_2 = λ w s. refl;
  comma_3 = λ w s. refl;
  literal_3 = λ w s. refl;
  else_row_3 = λ w s. refl;
  then_row_2 = λ w s. refl;
  until_3 = λ w s. refl;
  repeat_3 = λ w s. refl;
  again_3 = λ w s. refl;
  loop_row_3 = λ w s. refl;
  plus_loop_3 = λ w s. refl;
  resolve_back_3 = λ w s. refl;
  resolve_forward_2 = λ w s. refl;
  c_comma_3 = λ w s. refl;
  compile_does_3 = λ w s. refl;
  if_row_3 = λ w s. refl;
  while_row_3 = λ w s. refl;
  do_row_3 = λ w s. refl;
  mark_forward_3 = λ w s. refl;
  begin_2 = λ w s. refl;
  mark_back_2 = λ w s. refl;
  then_row_3 = λ w s. refl;
  resolve_forward_3 = λ w s. refl;
  begin_3 = λ w s. refl;
  mark_back_3 = λ w s. refl;
  dot_quote_2 = λ w s. refl;
  abort_quote_2 = λ w s. refl;
  dot_quote_3 = λ w s. refl;
  abort_quote_3 = λ w s. refl;
}

pub hold_editor : EditorExamples
unfolding start holds moved_front entry_at slot_of assigned front_marked has_updated first_updated unassigned row_in control stack cells doubles memory room_r room takes_r1 takes1 takes2 takes_r3 takes_r4 takes3 takes4 takes6 byte cell put_byte put_cell limit_of put_bytes cell_bytes moved_up moved_down filled bytes written with_page page front_put crosses floor_quotient can_divide floor_remainder um_can_divide count_byte name_length compilation_address is_hidden name_of is_named is_immediate fits laid_at trimmed has_block without_block saves_victim saves devices numbers input compiling editor row pad opened held with_digit with_digits signed_picture has_base expansion value digit text_value continued is_digit leading_digits are_digits digits_behind address_behind has_stream stream_buffers stream_at stream_size next_delimiter word_start word_in bytes_in parsed_in counted with_word searches counted_string forgets chain is_longer walked head_of first_in first_from sought_from sought sought_in leaves_past creates is_minus has_dot number_value is_number is_double compiles_past header_bytes site_of record_bytes newest_count made_immediate with_immediate revealed records members members_of all_members reached is_beyond_limit target first_below kept_record cut_vocabulary cuts compiles resolves can_allot lays_past text_code with_line line_inserted blank_line line_deleted blank_screen line_text
hold_editor = record {
  line_1 = λ w s. refl;
  line_2 = λ w s. refl;
  put_1 = λ w s. refl;
  insert_1 = λ w s. refl;
  delete_1 = λ w s. refl;
  wipe_1 = λ w s. refl;
  put_2 = λ w s. refl;
  insert_2 = λ w s. refl;
  delete_2 = λ w s. refl;
  wipe_2 = λ w s. refl;
  put_3 = λ w s. refl;
  insert_3 = λ w s. refl;
  delete_3 = λ w s. refl;
  line_3 = λ w s. refl;
  wipe_3 = λ w s. refl;
}
