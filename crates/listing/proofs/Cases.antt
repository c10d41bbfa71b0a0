-- Document 01's listing of P1, computed.
-- Assumes nothing.
use mathlib.Core.Path.{refl}
use Rattle.rules.specs.Bytes.{little_endian, part, word, leading_zeros, round_up, padded}
use Rattle.rules.specs.TypeTable.{envelope_size, type_of, member_rows, content_of, below}
use Rattle.rules.specs.Sizes.{largest_alignment, fields_from, fields_of, fields_size, struct_size, layout_as, layout_below, layout_of}
use Rattle.rules.specs.Sound.{struct_members, rising_members, row_fits, row_sound, rows_sound, soundness, root_allowed, rising_entries}
use Rattle.rules.specs.Text.{follows, is_utf8}
use Rattle.rules.specs.Trace.{object_list}
use Rattle.rules.specs.Decode as D
use Rattle.rules.specs.Records.{read_number, presence, read_presence, read_count, read_table}
use Rattle.rules.specs.Envelope.{decode_word, byte_numbered, flagged, unknown_envelope, content_of_eight_bytes, decode_content}
use Rattle.rules.specs.Walk as W
use Rattle.rules.specs.Answers.{walk, judged, check, read_values, read_objects, read}
use Rattle.listing.specs.Lines.{digits_within, decimal, object_lines, value_lines}
use Rattle.listing.specs.Listing.{listing}
use Rattle.listing.specs.Cases.{ascii, ascii_lines, P1Listed}

pub p1_listed : P1Listed
unfolding little_endian part word leading_zeros round_up padded envelope_size type_of member_rows content_of below largest_alignment fields_from fields_of fields_size struct_size layout_as layout_below layout_of struct_members rising_members rising_entries row_fits row_sound rows_sound soundness root_allowed follows is_utf8 object_list D.sequence D.elements D.record_then D.checked D.fill D.claim D.take_handles D.optional_envelope D.last_present D.zero_envelope D.present_envelope read_number presence read_presence read_count read_table decode_word byte_numbered flagged unknown_envelope content_of_eight_bytes decode_content W.fields W.struct_fields W.decode_as W.decode_below W.decode_row W.levels walk judged check read_values read_objects read digits_within decimal object_lines value_lines listing ascii ascii_lines
p1_listed = refl
