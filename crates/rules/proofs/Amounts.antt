-- How many numbers a walk gives, value numbers and object numbers together: at most as many as the message has bytes, and four
-- more. Each has a byte of its own. A value takes one in line at least; the four numbers of an object, and those that an envelope
-- gives besides its payload, go to the record or envelope, which has 8 bytes at least; those of the primary object are the four more.
use Rattle.std.specs.Prelude.{if◌then◌else◌}
use mathlib.Core.Path.{◌≡◌, refl, ap}
use mathlib.Core.Bool.{Bool, true, false, not, ◌&&◌}
use mathlib.Core.List.{List, [], ◌∷◌, ◌++◌}
use Prim.Native.Nat.{ℕ, zero, suc, ◌+◌, ◌-◌, ◌*◌, ◌/◌, ◌≤◌}
use native.Mathlib.Omega.{arith}
use lib.Dec.{leb, eqb}
use borrow.Author.Tests.{leb-true}
use lib.ListN.{length, length-append}
use Rattle.rules.specs.declared.Place.TheVariants.{Row, Byte}
use Rattle.rules.specs.declared.Fault.{Fault}
use Rattle.rules.specs.declared.Layout.{Layout}
use Rattle.rules.specs.Refusals.{fault, table_not_sound, too_deep, accepted}
use Rattle.rules.specs.Bytes.{padded, ones32, ones64}
use Rattle.rules.specs.TypeTable.{TypeTable, Edition, eight_byte_envelopes, envelope_size, FidlType, bool, number, handle, array, vector, string, struct, box, table, union, strict_enum, strict_bits, none, type_of, member_rows, Content, known, unknown, content_of, below}
use Rattle.rules.specs.Sizes.{Field, field, fields_of, fields_size, struct_size, layout_as, layout_below, layout_of, size_of}
use Rattle.rules.specs.Text.{is_utf8}
use Rattle.rules.specs.Trace.{Event, claimed, present_handle, unknown_content, handles_of, object_list, primary_object, vector_object, boxed_object, envelopes_object, payload_object, unknown_object}
use Rattle.rules.specs.Decode as D
use Rattle.rules.specs.Decode.{Message, Decoded, went, stopped, Decoder, ReadRecord, got, wrong}
use Rattle.rules.specs.Records.{Judged, any_pattern, bool_pattern, enum_pattern, bits_pattern, ordinal_pattern, read_number, read_presence, read_count, read_table}
use Rattle.rules.specs.Envelope.{decode_word, in_line, out_of_line, payload_in_line, claimable, low_word, handle_number, flags, byte_numbered, flagged, known_as, whole_words, unknown_in_line, unknown_out_of_line, unknown_envelope, content_of_eight_bytes, decode_content}
use Rattle.rules.specs.Walk as W
use Rattle.rules.specs.Answers.{walk, Reading, judged}
use Rattle.rules.proofs.Bytes.{padded_above}
use Rattle.rules.proofs.Trace.{objects_append}
use Rattle.rules.proofs.Demands.{passed}

-- A type whose value is one number of so many bytes.
pub data HasWidth : FidlType → ℕ → Type 0 where
  of_number : {width : ℕ} → HasWidth (number width) width
  of_enum : {width first count : ℕ} → HasWidth (strict_enum width first count) width
  of_bits : {width mask : ℕ} → HasWidth (strict_bits width mask) width

-- What is asked of the type table, and holds of every sound one: a number's width is not 0.
abbrev pub NumbersHaveBytes : TypeTable → Type 0
NumbersHaveBytes t = (row width : ℕ) → HasWidth (type_of t row) width → 1 ≤ width

-- ---- results

-- A result gives at most `most` numbers, besides one for each byte that it claims from `from` on.
data Within (most from : ℕ) : Decoded → Type 0 where
  gave : (next used : ℕ) (values : List ℕ) (trace : List Event) → length values + length (object_list trace) + from ≤ next + most → Within most from (went next used values trace)
  stops : {f : Fault} {values : List ℕ} {trace : List Event} → Within most from (stopped f values trace)

within_more : {less most from : ℕ} {result : Decoded} → less ≤ most → Within less from result → Within most from result
within_more l (gave next used values trace h) = gave next used values trace (omega arith)
within_more l stops = stops

within_if : (test : Bool) {a b : Decoded} {most from : ℕ} → Within most from a → Within most from b → Within most from (if test then a else b)
within_if true w v = w
within_if false w v = v

within_require : (test : Bool) (f : Fault) {result : Decoded} {most from : ℕ} → Within most from result → Within most from (D.require test f result)
within_require true f w = w
within_require false f w = stops

within_require_after : (holds : ℕ → ℕ → List ℕ → Bool) (f : Fault) {result : Decoded} {most from : ℕ} → Within most from result
    → Within most from (D.require_after holds f result)
within_require_after holds f (gave next used values trace h) = within_if (holds next used values) (gave next used values trace h) stops
within_require_after holds f stops = stops

-- What came before a result gives its own numbers.
within_after : (values : List ℕ) (trace : List Event) {result : Decoded} {less most start from : ℕ}
    → length values + length (object_list trace) + (start + less) ≤ from + most → Within less from result → Within most start (D.after values trace result)
within_after values trace l (gave next used more later h) =
    gave next used (values ++ more) (trace ++ later) (omega (arith, length-append values more, length-append (object_list trace) (object_list later), ap length (objects_append trace later)))
within_after values trace l stops = stops

within_then : {result : Decoded} (k : ℕ → ℕ → Decoded) {most more from : ℕ} → Within most from result → ((next used : ℕ) → Within more next (k next used))
    → Within (most + more) from (D.and_then result k)
within_then k (gave next used values trace h) rest = within_after values trace (omega arith) (rest next used)
within_then k stops rest = stops

within_record : (r : ReadRecord) (k : ℕ → Decoded) {most from : ℕ} → ((v : ℕ) → Within most from (k v)) → Within (suc most) from (D.record_goes r k)
unfolding object_list
within_record (got v) k w = within_after (v ∷ []) [] (omega arith) (w v)
within_record (wrong f) k w = stops

-- ---- parts

-- A part gives at most so many numbers, besides one for each byte that it claims.
record Gives (most : ℕ) (part : Decoder) : Type 0 where
  few : (at next used : ℕ) → Within most next (part at next used)

gives_more : {less most : ℕ} {part : Decoder} → less ≤ most → Gives less part → Gives most part
gives_more l g = record { few = λ at next used. within_more l (g.few at next used) }

gives_nothing : Gives 0 D.nothing
unfolding object_list
gives_nothing = record { few = λ at next used. gave next used [] [] (omega arith) }

gives_refuse : (f : Fault) {most : ℕ} → Gives most (D.refuse f)
gives_refuse f = record { few = λ at next used. stops }

gives_here : {parts : ℕ → Decoder} {most : ℕ} → ((at : ℕ) → Gives most (parts at)) → Gives most (D.here parts)
gives_here g = record { few = λ at next used. (g at).few at next used }

gives_emit : (values : List ℕ) {part : Decoder} {most : ℕ} → Gives most part → Gives (length values + most) (D.emit values part)
unfolding object_list
gives_emit values g = record { few = λ at next used. within_after values [] (omega arith) (g.few at next used) }

gives_sequence : (size : ℕ) {most more : ℕ} {first second : Decoder} → Gives most first → Gives more second → Gives (most + more) (D.sequence size first second)
unfolding D.sequence
gives_sequence size {second = second} g h =
    record { few = λ at next used. within_then (λ n u. second (at + size) n u) (g.few at next used) (λ n u. h.few (at + size) n u) }

gives_elements : (size : ℕ) {most : ℕ} {parts : ℕ → Decoder} → ((i : ℕ) → Gives most (parts i)) → (index count : ℕ)
    → Gives (count * most) (D.elements size parts index count)
unfolding D.elements
gives_elements size g index zero = gives_more (omega arith) gives_nothing
gives_elements size g index (suc count) = gives_more (omega arith) (gives_sequence size (g index) (gives_elements size g (suc index) count))

gives_record : (size : ℕ) (read : ℕ → ReadRecord) {continue : (at value : ℕ) → Decoder} {most : ℕ} → ((at value : ℕ) → Gives most (continue at value))
    → Gives (suc most) (D.record_then size read continue)
unfolding D.record_then
gives_record size read {continue} g =
    record { few = λ at next used. within_record (read at) (λ v. continue at v (at + size) next used) (λ v. (g at v).few (at + size) next used) }

gives_checked : (holds : List ℕ → Bool) (f : (at : ℕ) (values : List ℕ) → Fault) {part : Decoder} {most : ℕ} → Gives most part → Gives most (D.checked holds f part)
unfolding D.checked
gives_checked holds f g = record { few = λ at next used. within_require_after (λ n u values. holds values) _ (g.few at next used) }

module _ (m : Message) where
  gives_fill : (count : ℕ) → Gives 0 (D.fill m count)
  unfolding D.fill object_list
  gives_fill count = record { few = λ at next used. within_require (D.is_zero m at count) _ (gave next used [] [] (omega arith)) }

  -- An object takes its bytes for what its fields give; its own four numbers are left.
  gives_claim : (kind row size : ℕ) {fields : Decoder} → Gives size fields → Gives 4 (D.claim m kind row size fields)
  unfolding D.claim object_list
  gives_claim kind row size g = record {
    few = λ at next used.
        within_require (leb (next + padded size) (length m.bytes)) _
        (within_require (D.is_zero m (next + size) (padded size - size)) _
        (within_after [] (claimed kind row next size ∷ []) (omega (arith, padded_above size)) (g.few next (next + padded size) used)));
  }

  gives_handles : (word_at : ℕ) (event : Event) → object_list (event ∷ []) ≡ [] → Gives 0 (D.take_handles m word_at event)
  unfolding D.take_handles
  gives_handles word_at event no-object = record { few = λ at next used. within_require (leb (used + handles_of event) m.handles) _ (gave next (used + handles_of event) [] (event ∷ []) (rw no-object (omega arith))) }

  gives_number : (width : ℕ) (judge : ℕ → Judged) → Gives 1 (D.record_then width (read_number m width judge) (λ at v. D.nothing))
  gives_number width judge = gives_record width (read_number m width judge) (λ at v. gives_nothing)

  gives_word : (width : ℕ) → Gives 1 (decode_word m width)
  unfolding decode_word
  gives_word width = gives_number width any_pattern

  -- ---- what lies deeper: a row gives at most as many numbers as it has bytes in line

  data Deep : D.Deeper → Type 0 where
    deep_spent : Deep D.spent
    deep_rows : {rows : ℕ → Decoder} {below : D.Deeper} → ((row : ℕ) → Gives (size_of m.table row) (rows row)) → Deep below → Deep (D.deeper rows below)

  gives_deeper : (at : ℕ) (k : (ℕ → Decoder) → D.Deeper → Decoder) {most : ℕ} {d : D.Deeper}
      → ((rows : ℕ → Decoder) (below : D.Deeper) → ((row : ℕ) → Gives (size_of m.table row) (rows row)) → Deep below → Gives most (k rows below)) → Deep d
      → Gives most (D.one_deeper d at k)
  gives_deeper at k f deep_spent = gives_refuse (fault too_deep (Byte at))
  gives_deeper at k f (deep_rows {rows} {below} g deep) = f rows below g deep

  -- ---- envelopes of eight bytes

  gives_numbered : {payload : Decoder} {most : ℕ} → Gives most payload → Gives most (byte_numbered m payload)
  unfolding byte_numbered
  gives_numbered g = record { few = λ at next used. within_require_after (λ n u values. eqb (low_word m at) (n - next)) _ (g.few at next used) }

  gives_flagged : (form : ℕ) {payload : Decoder} {most : ℕ} → Gives most payload → Gives most (flagged m form payload)
  unfolding flagged
  gives_flagged form g = record {
    few = λ at next used.
        within_require (eqb (flags m at) form) _ (within_require_after (λ n u values. eqb (handle_number m at) (u - used)) _ (g.few at next used));
  }

  gives_known : (row : ℕ) (small : Bool) → leb (size_of m.table row) 4 ≡ small → {d : D.Deeper} → Deep d → Gives 4 (known_as m small d row)
  gives_known row true is deep =
      let fits : size_of m.table row + 0 ≤ 4 = omega (arith, leb-true (size_of m.table row) 4 is) in
      gives_flagged in_line
      (gives_more fits
      (gives_sequence (size_of m.table row) (gives_here (λ at. gives_deeper at (λ rows b. rows row) (λ rows b g below. g row) deep)) (gives_fill (4 - size_of m.table row))))
  gives_known row false is deep =
      gives_flagged out_of_line
      (gives_numbered (gives_here (λ at. gives_deeper at _ (λ rows b g below. gives_claim payload_object row (size_of m.table row) (g row)) deep)))

  gives_unknown_in_line : (at : ℕ) {d : D.Deeper} → Deep d → Gives 6 (unknown_in_line m d at)
  unfolding object_list
  gives_unknown_in_line at deep =
      gives_deeper at _ (λ rows b g below. gives_more (omega arith) (gives_emit (0 ∷ handle_number m at ∷ low_word m at ∷ []) (gives_handles at (unknown_content 0 (handle_number m at)) refl))) deep

  gives_unknown_out_of_line : (row at : ℕ) {d : D.Deeper} → Deep d → Gives 6 (unknown_out_of_line m d row at)
  unfolding object_list
  gives_unknown_out_of_line row at deep =
      gives_deeper at _
      (λ rows b g below.
      gives_emit (low_word m at ∷ handle_number m at ∷ [])
      (gives_claim unknown_object row (low_word m at)
      (gives_more (omega arith)
      (gives_sequence 0 (gives_handles at (unknown_content (low_word m at) (handle_number m at)) refl) (gives_elements 8 (λ i. gives_word 8) 0 (low_word m at / 8))))))
      deep

  gives_unknown : (row : ℕ) {d : D.Deeper} → Deep d → Gives 6 (unknown_envelope m d row)
  unfolding unknown_envelope
  gives_unknown row deep = record {
    few = λ at next used.
        within_if (eqb (flags m at) in_line) (within_require (claimable payload_in_line (handle_number m at)) _ ((gives_unknown_in_line at deep).few at next used))
        (within_require (eqb (flags m at) out_of_line && whole_words m (low_word m at)) _
        (within_require (claimable (low_word m at) (handle_number m at)) _ ((gives_unknown_out_of_line row at deep).few at next used)));
  }

  -- ---- any edition

  gives_content : (edition : Edition) (row : ℕ) (content : Content) {d : D.Deeper} → Deep d → Gives 7 (decode_content edition m d row content)
  unfolding decode_content content_of_eight_bytes
  gives_content eight_byte_envelopes row (known payload) deep = gives_more (omega arith) (gives_known payload (leb (size_of m.table payload) 4) refl deep)
  gives_content eight_byte_envelopes row unknown deep = gives_more (omega arith) (gives_unknown row deep)

  envelope_above : (edition : Edition) → 8 ≤ envelope_size edition
  unfolding envelope_size
  envelope_above eight_byte_envelopes = omega arith

  gives_optional : (size : ℕ) (last : Bool) {content : Decoder} {most : ℕ} → Gives most content → Gives (suc most) (D.optional_envelope m size last content)
  unfolding D.optional_envelope object_list
  gives_optional size last g = record {
    few = λ at next used.
        within_if (D.is_zero m at size) (within_require (not last) _ (gave next used (0 ∷ []) [] (omega arith))) (within_after (1 ∷ []) [] (omega arith) (g.few at next used));
  }

  gives_last : (size count : ℕ) {envelopes : Decoder} {most : ℕ} → Gives most envelopes → Gives most (D.last_present m size count envelopes)
  unfolding D.last_present
  gives_last size zero g = record { few = λ at next used. g.few at next used }
  gives_last size (suc count) g =
      record { few = λ at next used. within_require (not (D.is_zero m (at + count * size) size)) _ (g.few at next used) }

  gives_zero_envelope : (size union-at : ℕ) → Gives 0 (D.zero_envelope m size union-at)
  unfolding D.zero_envelope object_list
  gives_zero_envelope size union-at = record { few = λ at next used. within_require (D.is_zero m at size) _ (gave next used [] [] (omega arith)) }

  gives_present_envelope : (size : ℕ) {content : Decoder} {most : ℕ} → Gives most content → Gives most (D.present_envelope m size content)
  unfolding D.present_envelope
  gives_present_envelope size g = record { few = λ at next used. within_require (not (D.is_zero m at size)) _ (g.few at next used) }

  -- ---- what a record leads to

  gives_after_handle : (at v : ℕ) → Gives 0 (W.after_handle m at v)
  unfolding object_list
  gives_after_handle at zero = gives_nothing
  gives_after_handle at (suc v) = gives_handles at (present_handle at) refl

  module _ {d : D.Deeper} (deep : Deep d) where
    gives_after_vector : (row element at v : ℕ) → Gives 4 (W.after_vector m d row element at v)
    gives_after_vector row element at zero = gives_more (omega arith) gives_nothing
    gives_after_vector row element at (suc count) =
        let s = size_of m.table element in
        gives_deeper at _ (λ rows b g below. gives_claim vector_object row (count * s) (gives_elements s (λ i. g element) 0 count)) deep

    gives_after_string : (row at v : ℕ) → Gives 4 (W.after_string m d row at v)
    gives_after_string row at zero = gives_more (omega arith) gives_nothing
    gives_after_string row at (suc count) =
        gives_deeper at _ (λ rows b g below. gives_claim vector_object row (count * 1) (gives_checked is_utf8 W.bad_text (gives_elements 1 (λ i. gives_word 1) 0 count))) deep

    gives_after_box : (element at v : ℕ) → Gives 4 (W.after_box m d element at v)
    gives_after_box element at zero = gives_more (omega arith) gives_nothing
    gives_after_box element at (suc v) = gives_deeper at _ (λ rows b g below. gives_claim boxed_object element (size_of m.table element) (g element)) deep

    gives_envelopes : (row : ℕ) (content : ℕ → Content) (count : ℕ)
        → Gives (count * envelope_size m.table.edition) (D.last_present m (envelope_size m.table.edition) count
        (D.elements (envelope_size m.table.edition) (λ ordinal. D.optional_envelope m (envelope_size m.table.edition) (eqb ordinal count) (decode_content m.table.edition m d row (content ordinal))) 1 count))
    gives_envelopes row content count =
        let size = envelope_size m.table.edition in
        let wide : suc 7 ≤ envelope_size m.table.edition = envelope_above m.table.edition in
        gives_last size count (gives_elements size (λ i. gives_more wide (gives_optional size (eqb i count) (gives_content m.table.edition row (content i) deep))) 1 count)

    gives_after_union : (row : ℕ) (content : ℕ → Content) (at v : ℕ) → Gives 7 (W.after_union m d row content at v)
    gives_after_union row content at zero = gives_more (omega arith) (gives_zero_envelope (envelope_size m.table.edition) at)
    gives_after_union row content at (suc v) = gives_present_envelope (envelope_size m.table.edition) (gives_content m.table.edition row (content (suc v)) deep)

  gives_after_table : {d : D.Deeper} → Deep d → (row : ℕ) (content : ℕ → Content) (at v : ℕ) → Gives 4 (W.after_table m d row content at v)
  gives_after_table deep row content at count =
      gives_deeper at _ (λ rows b g below. gives_claim envelopes_object row (count * envelope_size m.table.edition) (gives_envelopes below row content count)) deep

  -- ---- structs

  module _ (layouts : ℕ → Layout) (inner : ℕ → Decoder) (g : (row : ℕ) → Gives (layouts row).size (inner row)) where
    gives_fields : (fs : List Field) → Gives (fields_size layouts fs) (W.fields m layouts inner fs)
    unfolding fields_size W.fields
    gives_fields [] = gives_nothing
    gives_fields (field row gap ∷ fs) = gives_sequence (layouts row).size (g row) (gives_more (omega arith) (gives_sequence gap (gives_fill gap) (gives_fields fs)))

    gives_struct : (fs : List Field) → Gives (struct_size layouts fs) (W.struct_fields m layouts inner fs)
    unfolding struct_size W.struct_fields
    gives_struct [] = gives_more (omega arith) (gives_fill 1)
    gives_struct (f ∷ fs) = gives_fields (f ∷ fs)

  -- ---- any row

  gives_if : (b : Bool) (l₁ l₂ : Layout) {f₁ f₂ : Decoder} → Gives l₁.size f₁ → Gives l₂.size f₂ → Gives (if b then l₁ else l₂).size (if b then f₁ else f₂)
  gives_if true l₁ l₂ g h = g
  gives_if false l₁ l₂ g h = h

  module _ (wide : NumbersHaveBytes m.table) where
    gives_as : {d : D.Deeper} → Deep d → (layouts : ℕ → Layout) (inner : ℕ → Decoder) → ((row : ℕ) → Gives (layouts row).size (inner row)) → (row : ℕ) (type : FidlType)
        → type_of m.table row ≡ type → Gives (layout_as m.table layouts type).size (W.decode_as m d layouts inner row type)
    unfolding layout_as W.decode_as
    gives_as deep layouts inner g row bool is = gives_number 1 bool_pattern
    gives_as deep layouts inner g row (number width) is = gives_more (wide row width (rw is of_number)) (gives_word width)
    gives_as deep layouts inner g row (handle optional) is = gives_more (omega arith) (gives_record 4 (read_presence m 4 ones32 optional) gives_after_handle)
    gives_as deep layouts inner g row (array element count) is = gives_elements (layouts element).size (λ i. g element) 0 count
    gives_as deep layouts inner g row (vector element largest optional) is = gives_more (omega arith) (gives_record 16 (read_count m optional largest) (gives_after_vector deep row element))
    gives_as deep layouts inner g row (string largest optional) is = gives_more (omega arith) (gives_record 16 (read_count m optional largest) (gives_after_string deep row))
    gives_as deep layouts inner g row (struct first count) is = gives_struct layouts inner g (fields_of layouts (member_rows m.table first count))
    gives_as deep layouts inner g row (box element) is = gives_more (omega arith) (gives_record 8 (read_presence m 8 ones64 true) (gives_after_box deep element))
    gives_as deep layouts inner g row (table first count) is = gives_more (omega arith) (gives_record 16 (read_table m) (gives_after_table deep row (content_of m.table first count)))
    gives_as deep layouts inner g row (union first count optional flexible) is =
        gives_more (omega arith) (gives_record 8 (read_number m 8 (ordinal_pattern (content_of m.table first count) optional flexible)) (gives_after_union deep row (content_of m.table first count)))
    gives_as deep layouts inner g row (strict_enum width first count) is = gives_more (wide row width (rw is of_enum)) (gives_number width (enum_pattern m.table first count))
    gives_as deep layouts inner g row (strict_bits width mask) is = gives_more (wide row width (rw is of_bits)) (gives_number width (bits_pattern m.table mask))
    gives_as deep layouts inner g row none is = gives_refuse (fault table_not_sound (Row row))

    gives_below : {d : D.Deeper} → Deep d → (bound row : ℕ) → Gives (layout_below m.table bound row).size (W.decode_below m d bound row)
    unfolding layout_below W.decode_below below
    gives_below deep zero row = gives_refuse (fault table_not_sound (Row 256))
    gives_below {d} deep (suc bound) row =
        gives_if (eqb row bound) (layout_as m.table (layout_below m.table bound) (type_of m.table bound)) (layout_below m.table bound row)
        (gives_as deep (layout_below m.table bound) (W.decode_below m d bound) (gives_below deep bound) bound (type_of m.table bound) refl) (gives_below deep bound row)

    gives_row : {d : D.Deeper} → Deep d → (row : ℕ) → Gives (size_of m.table row) (W.decode_row m d row)
    unfolding layout_of W.decode_row
    gives_row {d} deep row = gives_as deep (layout_below m.table row) (W.decode_below m d row) (gives_below deep row) row (type_of m.table row) refl

    deep_levels : (depth : ℕ) → Deep (W.levels m depth)
    unfolding W.levels
    deep_levels zero = deep_spent
    deep_levels (suc depth) = deep_rows (gives_row (deep_levels depth)) (deep_levels depth)

    gives_walk : (root : ℕ) → Within 4 0 (walk m root)
    unfolding walk
    gives_walk root = (gives_claim primary_object root (size_of m.table root) (gives_row (deep_levels 32) root)).few 0 0 0

-- ---- an accepted message

gave_few : {most from next used : ℕ} {values : List ℕ} {trace : List Event} → Within most from (went next used values trace)
    → length values + length (object_list trace) + from ≤ next + most
gave_few (gave next used values trace h) = h

pub few_numbers : (m : Message) (root : ℕ) (r : Reading) → NumbersHaveBytes m.table → judged m root ≡ accepted r
    → length r.values + length (object_list r.trace) ≤ length m.bytes + 4
few_numbers m root r wide e = omega (arith, gave_few (rw (passed m root r e).walked at (gives_walk m wide root)))
