-- Envelopes with content, in each edition: how they are walked, and how they are written.
-- Assumes nothing.
use Rattle.std.specs.Prelude.{Bool, true, false, ◌&&◌, List, [], ◌∷◌, ◌++◌, ℕ, zero, suc, ◌+◌, ◌-◌, ◌*◌, ◌/◌, ◌%◌, ◌≤◌, leb, ltb, eqb, if◌then◌else◌}
use Rattle.rules.specs.declared.Place.TheVariants.{Byte}
use Rattle.rules.specs.Refusals.{fault, envelope_form_wrong, byte_number_wrong, handle_number_wrong, handles_impossible}
use Rattle.rules.specs.Bytes.{word, bytes_of, padded}
use Rattle.rules.specs.TypeTable.{TypeTable, Edition, eight_byte_envelopes, Content, known, unknown}
use Rattle.rules.specs.Sizes.{size_of}
use Rattle.rules.specs.Trace.{Event, claimed, present_handle, unknown_content, payload_object, unknown_object}
use Rattle.rules.specs.Records.{any_pattern, read_number, write_number}
use Rattle.rules.specs.Decode as D
use Rattle.rules.specs.Encode as E
use Rattle.rules.specs.Encode.{Encoded, wrote, cannot}

-- ---- numbers in line, in both directions

-- A number of so many bytes that leads to nothing else.
unfoldable pub decode_word : D.Message → (width : ℕ) → D.Decoder
decode_word m width = D.record_then width (read_number m width any_pattern) (λ at v. D.nothing)

unfoldable pub encode_word : (width : ℕ) → E.Encoder
encode_word width = E.record_then (write_number width any_pattern) (λ v. E.nothing)

-- ---- eight bytes
-- "bytes 6 and 7 are flags (bit 0: payload in line; any other bit set is 15), bytes 4 and 5 the handle number, bytes 0 to 3
-- the payload or its byte number."

abbrev pub in_line : ℕ
in_line = 1

abbrev pub out_of_line : ℕ
out_of_line = 0

-- W-209: "A handle takes four bytes, so an unknown payload may claim at most one handle in line, and at most a quarter of its
-- byte number out of line."
abbrev pub payload_in_line : ℕ
payload_in_line = 4

abbrev pub claimable : (payload handles : ℕ) → Bool
claimable payload handles = leb (handles * 4) payload

-- The same of all unknown content that a walk met; a byte number of 0 stands for content in line.
abbrev pub unknown_payload : (byte_number : ℕ) → ℕ
unknown_payload zero = payload_in_line
unknown_payload (suc n) = suc n

unfoldable pub UnknownClaimsFit : (trace : List Event) → Type 0
UnknownClaimsFit [] = Unit {0}
UnknownClaimsFit (claimed kind row offset length ∷ trace) = UnknownClaimsFit trace
UnknownClaimsFit (present_handle at ∷ trace) = UnknownClaimsFit trace
UnknownClaimsFit (unknown_content byte_number handles ∷ trace) = (handles * 4 ≤ unknown_payload byte_number) × UnknownClaimsFit trace

abbrev pub envelope_bytes : (bytes handles flags : ℕ) → List ℕ
envelope_bytes bytes handles flags = bytes_of 4 bytes ++ (bytes_of 2 handles ++ bytes_of 2 flags)

module _ (m : D.Message) where
  abbrev pub low_word : ℕ → ℕ
  low_word at = word m.bytes at 4

  abbrev pub handle_number : ℕ → ℕ
  handle_number at = word m.bytes (at + 4) 2

  abbrev pub flags : ℕ → ℕ
  flags at = word m.bytes (at + 6) 2

  -- 15, at the envelope.
  abbrev pub require_form : Bool → (at : ℕ) → D.Decoded → D.Decoded
  require_form holds at result = D.require holds (fault envelope_form_wrong (Byte at)) result

  -- 35, at the envelope, "after 15 and before 5".
  abbrev pub require_claimable : (payload at : ℕ) → D.Decoded → D.Decoded
  require_claimable payload at result = D.require (claimable payload (handle_number at)) (fault handles_impossible (Byte at)) result

  -- A number of the envelope, tested after its value; at the envelope. W-208: 16 "means only a wrong byte number. A wrong
  -- handle number is 28, tested after 16 at the same envelope."
  abbrev pub require_number : (refusal : ℕ) → (ℕ → ℕ → Bool) → (at : ℕ) → D.Decoded → D.Decoded
  require_number refusal holds at result = D.require_after (λ next used values. holds next used) (fault refusal (Byte at)) result

  -- 16: "the byte number covering everything claimed from its payload on, fill included".
  unfoldable pub byte_numbered : D.Decoder → D.Decoder
  byte_numbered payload at next used = require_number byte_number_wrong (λ n u. eqb (low_word at) (n - next)) at (payload at next used)

  -- The flags that the payload's size asks for, then the payload, then its handle number.
  unfoldable pub flagged : (form : ℕ) → D.Decoder → D.Decoder
  flagged form payload at next used =
      let numbered = require_number handle_number_wrong (λ n u. eqb (handle_number at) (u - used)) at (payload at next used) in
      require_form (eqb (flags at) form) at numbered

  -- "A payload of size up to 4 must be in line, a larger one out of line. Known member: 15, 5; in line: value, fill up to
  -- four," then 28; "out of line: claim, value, then 16", then 28.
  abbrev pub known_as : (small : Bool) → D.Deeper → (row : ℕ) → D.Decoder
  known_as true below row =
      flagged in_line (D.sequence (size_of m.table row) (D.here (λ at. D.one_deeper below at (λ rows b. rows row))) (D.fill m (4 - size_of m.table row)))
  known_as false below row =
      flagged out_of_line (byte_numbered (D.here (λ at. D.one_deeper below at (λ rows b. D.claim m payload_object row (size_of m.table row) (rows row)))))

  -- "Unknown ordinal, in a table or flexible union: 15, also when out of line with a byte number that isn't a positive multiple of 8;"
  -- 35; "5; out of line 6; 14. The content is taken raw." `row` is the table's or union's.
  abbrev pub unknown_in_line : D.Deeper → (at : ℕ) → D.Decoder
  unknown_in_line below at =
      D.one_deeper below at (λ rows b. D.emit (0 ∷ handle_number at ∷ low_word at ∷ []) (D.take_handles m at (unknown_content 0 (handle_number at))))

  abbrev pub unknown_out_of_line : D.Deeper → (row at : ℕ) → D.Decoder
  unknown_out_of_line below row at =
      D.one_deeper below at (λ rows b.
      D.emit (low_word at ∷ handle_number at ∷ [])
      (D.claim m unknown_object row (low_word at)
      (D.sequence 0 (D.take_handles m at (unknown_content (low_word at) (handle_number at)))
      (D.elements 8 (λ i. decode_word m 8) 0 (low_word at / 8)))))

  abbrev pub whole_words : ℕ → Bool
  whole_words bytes = eqb (bytes % 8) 0 && ltb 0 bytes

  unfoldable pub unknown_envelope : D.Deeper → (row : ℕ) → D.Decoder
  unknown_envelope below row at next used =
      let inside = require_claimable payload_in_line at (unknown_in_line below at at next used) in
      let claimed = require_claimable (low_word at) at (unknown_out_of_line below row at at next used) in
      let outside = require_form (eqb (flags at) out_of_line && whole_words (low_word at)) at claimed in
      if eqb (flags at) in_line then inside else outside

  unfoldable pub content_of_eight_bytes : D.Deeper → (row : ℕ) → Content → D.Decoder
  content_of_eight_bytes below row (known payload) = known_as (leb (size_of m.table payload) 4) below payload
  content_of_eight_bytes below row unknown = unknown_envelope below row

-- The writer fills the envelope's fields from what the payload took.

abbrev pub byte_number_goes : (next : ℕ) → Encoded → Encoded
byte_number_goes next (wrote inline outside n u rest) = wrote (bytes_of 4 (n - next)) outside n u rest
byte_number_goes next (cannot number left) = cannot number left

unfoldable pub write_byte_number : E.Encoder → E.Encoder
write_byte_number payload values next used = byte_number_goes next (payload values next used)

abbrev pub flags_go : (form used : ℕ) → Encoded → Encoded
flags_go form used (wrote inline outside n u rest) = wrote (inline ++ (bytes_of 2 (u - used) ++ bytes_of 2 form)) outside n u rest
flags_go form used (cannot number left) = cannot number left

unfoldable pub write_flags : (form : ℕ) → E.Encoder → E.Encoder
write_flags form payload values next used = flags_go form used (payload values next used)

abbrev pub write_known_as : TypeTable → (small : Bool) → E.Deeper → (row : ℕ) → E.Encoder
write_known_as t true below row = write_flags in_line (E.sequence (E.one_deeper below (λ rows b. rows row)) (E.fill (4 - size_of t row)))
write_known_as t false below row = write_flags out_of_line (write_byte_number (E.one_deeper below (λ rows b. E.claim (size_of t row) (rows row))))

-- "Content of an unknown ordinal: byte number (0 in line, else a multiple of 8 under 2^32), handle number (at most 65,535),
-- then the 4-byte word or all 8-byte words." Each number gives 26 first; then the byte number 3, and the handle number 4.
-- W-209: "The writer refuses such lists with 26", at the handle number.
abbrev pub byte_number_fits : ℕ → Bool
byte_number_fits bytes = eqb (bytes % 8) 0 && ltb bytes 4294967296

abbrev pub handle_number_fits : (payload handles : ℕ) → Bool
handle_number_fits payload handles = ltb handles 65536 && claimable payload handles

abbrev pub word_fits : ℕ → Bool
word_fits word = ltb word 4294967296

-- The words of unknown content out of line, which are its object; the envelope stands in line.
unfoldable pub write_words : (bytes handles : ℕ) → E.Encoder
write_words bytes handles values next used =
    E.after (envelope_bytes bytes handles out_of_line) [] (E.as_object bytes (E.elements (λ i. encode_word 8) 0 (bytes / 8) values (next + padded bytes) used))

unfoldable pub write_unknown_in_line : E.Encoder
write_unknown_in_line =
    E.number_then (handle_number_fits payload_in_line) (λ handles. E.sequence (E.take_handles handles)
    (E.number_then word_fits (λ word. E.inline_bytes (envelope_bytes word handles in_line))))

unfoldable pub write_unknown_out_of_line : (bytes : ℕ) → E.Encoder
write_unknown_out_of_line bytes values next used =
    let written = E.number_then (handle_number_fits bytes) (λ handles. E.sequence (E.take_handles handles) (write_words bytes handles)) values next used in
    E.require_space bytes next values written

unfoldable pub write_unknown : E.Deeper → E.Encoder
write_unknown below =
    E.one_deeper below (λ rows b. E.number_then byte_number_fits (λ bytes. if eqb bytes 0 then write_unknown_in_line else write_unknown_out_of_line bytes))

unfoldable pub write_content_of_eight_bytes : TypeTable → E.Deeper → Content → E.Encoder
write_content_of_eight_bytes t below (known payload) = write_known_as t (leb (size_of t payload) 4) below payload
write_content_of_eight_bytes t below unknown = write_unknown below

-- ---- any edition: the content of an envelope that is not zero

unfoldable pub decode_content : Edition → D.Message → D.Deeper → (row : ℕ) → Content → D.Decoder
decode_content eight_byte_envelopes m below row content = content_of_eight_bytes m below row content

unfoldable pub encode_content : Edition → TypeTable → E.Deeper → Content → E.Encoder
encode_content eight_byte_envelopes t below content = write_content_of_eight_bytes t below content
