-- Document 01's cases P1 to P12, its slips, and cases of the change requests, each computed over the whole table.
use mathlib.Core.Path.{refl}
use Rattle.rules.specs.Bytes.{little_endian, bytes_of, part, word, zeros, leading_zeros, round_up, padded}
use Rattle.rules.specs.TypeTable.{envelope_size, type_of, member_rows, content_of, below}
use Rattle.rules.specs.Sizes.{largest_alignment, fields_from, fields_of, fields_size, struct_size, layout_as, layout_below, layout_of}
use Rattle.rules.specs.Sound.{struct_members, rising_members, row_fits, row_sound, rows_sound, soundness, root_allowed, rising_entries}
use Rattle.rules.specs.Text.{follows, is_utf8, broken_at}
use Rattle.rules.specs.Trace.{object_list}
use Rattle.rules.specs.Decode as D
use Rattle.rules.specs.Encode as E
use Rattle.rules.specs.Records.{among_entries, read_number, write_number, presence, read_presence, write_presence, read_count, write_count, read_table, write_table}
use Rattle.rules.specs.Envelope.{decode_word, encode_word, byte_numbered, write_byte_number, flagged, write_flags, unknown_envelope, write_words, write_unknown_in_line, write_unknown_out_of_line, write_unknown, content_of_eight_bytes, write_content_of_eight_bytes, decode_content, encode_content}
use Rattle.rules.specs.Walk as W
use Rattle.rules.specs.Answers.{walk, judged, check, read_values, read_objects, read, encode, written}
use Rattle.rules.specs.Header.{read_header}
use Rattle.rules.specs.Cases.{CasesHold, SlipsShow, EpitaphCasesHold, RequestsHold}
use Rattle.rules.specs.Writer as R

pub cases_hold : CasesHold
unfolding little_endian part word leading_zeros round_up padded envelope_size type_of member_rows content_of below largest_alignment fields_from fields_of fields_size struct_size layout_as layout_below layout_of struct_members rising_members rising_entries row_fits row_sound rows_sound soundness root_allowed follows is_utf8 broken_at object_list D.sequence D.elements D.record_then D.checked D.fill D.claim D.take_handles D.optional_envelope D.last_present D.zero_envelope D.present_envelope read_number presence read_presence read_count read_table decode_word byte_numbered flagged unknown_envelope content_of_eight_bytes decode_content W.fields W.struct_fields W.decode_as W.decode_below W.decode_row W.levels walk judged check read_values read_objects read
cases_hold = refl

pub slips_show : SlipsShow
unfolding bytes_of little_endian part word leading_zeros round_up padded envelope_size type_of member_rows content_of below largest_alignment fields_from fields_of fields_size struct_size layout_as layout_below layout_of struct_members rising_members rising_entries row_fits row_sound rows_sound soundness root_allowed follows is_utf8 broken_at object_list D.sequence D.elements D.record_then D.checked D.fill D.claim D.take_handles D.optional_envelope D.last_present D.zero_envelope D.present_envelope read_number presence read_presence read_count read_table decode_word byte_numbered flagged unknown_envelope content_of_eight_bytes decode_content W.fields W.struct_fields W.decode_as W.decode_below W.decode_row W.levels walk judged check read_values read_objects read
slips_show = refl

pub epitaph_cases_hold : EpitaphCasesHold
unfolding little_endian bytes_of part word zeros leading_zeros read_header
epitaph_cases_hold = (refl, refl, refl, refl, refl)

pub requests_hold : RequestsHold
unfolding bytes_of zeros little_endian part word leading_zeros round_up padded envelope_size type_of member_rows content_of below largest_alignment fields_from fields_of fields_size struct_size layout_as layout_below layout_of struct_members rising_members rising_entries row_fits row_sound rows_sound soundness root_allowed follows is_utf8 broken_at object_list D.sequence D.elements D.record_then D.checked D.fill D.claim D.take_handles D.optional_envelope D.last_present D.zero_envelope D.present_envelope among_entries read_number presence read_presence read_count read_table decode_word byte_numbered flagged unknown_envelope content_of_eight_bytes decode_content W.fields W.struct_fields W.decode_as W.decode_below W.decode_row W.levels walk judged check read_values read_objects read E.sequence E.elements E.number_then E.record_then E.checked E.inline_bytes E.claim E.take_handles E.optional_envelope write_number write_presence write_count write_table encode_word write_byte_number write_flags write_words write_unknown_in_line write_unknown_out_of_line write_unknown write_content_of_eight_bytes encode_content R.fields R.struct_fields R.encode_as R.encode_below R.encode_row R.levels encode written
requests_hold = refl
