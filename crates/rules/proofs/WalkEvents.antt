-- Whatever the walk comes to, what it meets is so in the message: kind by kind, for every type table.
use Rattle.std.specs.Prelude.{if◌then◌else◌}
use mathlib.Core.Path.{◌≡◌, refl}
use mathlib.Core.Bool.{Bool, true, false, ◌&&◌}
use mathlib.Core.List.{List, [], ◌∷◌}
use Prim.Native.Nat.{ℕ, zero, suc, ◌-◌, ◌*◌, ◌/◌, ◌%◌, ◌≤◌, ◌<◌}
use native.Mathlib.Omega.{arith}
use borrow.Author.Tests.{leb-true, ltb-true}
use lib.Dec.{leb, ltb, eqb}
use Rattle.rules.specs.declared.Place.TheVariants.{Row, Byte}
use Rattle.rules.specs.declared.Layout.{Layout}
use Rattle.rules.specs.Refusals.{fault, table_not_sound, too_deep, required_absent, envelope_form_wrong, handles_impossible}
use Rattle.rules.specs.Bytes.{word, ones32, ones64}
use Rattle.rules.specs.TypeTable.{Edition, eight_byte_envelopes, envelope_size, FidlType, bool, number, handle, array, vector, string, struct, box, table, union, strict_enum, strict_bits, none, type_of, member_rows, Content, known, unknown, content_of, below}
use Rattle.rules.specs.Sizes.{Field, field, fields_of, layout_below, size_of}
use Rattle.rules.specs.Text.{is_utf8}
use Rattle.rules.specs.Trace.{present_handle, unknown_content, primary_object, vector_object, boxed_object, envelopes_object, payload_object, unknown_object}
use Rattle.rules.specs.Decode as D
use Rattle.rules.specs.Decode.{Message, trace_of, Decoder, got}
use Rattle.rules.specs.Records.{unless, bool_pattern, enum_pattern, bits_pattern, ordinal_pattern, read_number, Presence, absent, present, neither, presence, presence_record, read_presence, read_count, read_table}
use Rattle.rules.specs.Envelope.{decode_word, in_line, out_of_line, payload_in_line, claimable, unknown_payload, require_claimable, low_word, handle_number, flags, known_as, unknown_in_line, unknown_out_of_line, whole_words, unknown_envelope, content_of_eight_bytes, decode_content}
use Rattle.rules.specs.Walk as W
use Rattle.rules.specs.Answers.{walk}
use Rattle.rules.proofs.Tests.{both}
use Rattle.rules.proofs.Records.{read_if_inv, wrong_not_got, present_ones}
use Rattle.rules.proofs.Events.{Met, met_handle, met_unknown, True, Truthful, true_require, true_if, nothing_true, refuse_true, sequence_true, elements_true, here_true, emit_true, record_true, number_true, word_true, checked_true, fill_true, claim_true, take_true, optional_true, last_true, zero_true, present_true, numbered_true, flagged_true}

module _ (m : Message) where
  -- What lies deeper.
  data AllTruthful : D.Deeper → Type 0 where
    spent : AllTruthful D.spent
    deeper : {rows : ℕ → Decoder} {below : D.Deeper} → ((row : ℕ) → Truthful m (rows row)) → AllTruthful below → AllTruthful (D.deeper rows below)

  deeper_true : {d : D.Deeper} (record_at : ℕ) (k : (ℕ → Decoder) → D.Deeper → Decoder)
      → ((rows : ℕ → Decoder) (below : D.Deeper) → ((row : ℕ) → Truthful m (rows row)) → AllTruthful below → Truthful m (k rows below)) → AllTruthful d → Truthful m (D.one_deeper d record_at k)
  deeper_true record_at k x spent = refuse_true m (fault too_deep (Byte record_at))
  deeper_true record_at k x (deeper {rows} {below} a b) = x rows below a b

  known_true : (small : Bool) {d : D.Deeper} (row : ℕ) → AllTruthful d → Truthful m (known_as m small d row)
  known_true true row a =
      flagged_true m in_line (sequence_true m (size_of m.table row) (here_true m _ (λ at. deeper_true at (λ rows b. rows row) (λ rows below x b. x row) a)) (fill_true m (4 - size_of m.table row)))
  known_true false row a =
      flagged_true m out_of_line (numbered_true m (here_true m _ (λ at.
      deeper_true at (λ rows b. D.claim m payload_object row (size_of m.table row) (rows row)) (λ rows below x b. claim_true m payload_object row (size_of m.table row) (x row)) a)))

  in_line_true : {d : D.Deeper} (at : ℕ) → claimable payload_in_line (handle_number m at) ≡ true → AllTruthful d → Truthful m (unknown_in_line m d at)
  in_line_true at e a =
      deeper_true at _ (λ rows below x b. emit_true m (0 ∷ handle_number m at ∷ low_word m at ∷ []) (take_true m at (unknown_content 0 (handle_number m at)) (met_unknown m.bytes 0 (handle_number m at) (leb-true (handle_number m at * 4) payload_in_line e)))) a

  -- A byte number that is a positive one is the payload's.
  number_fits : (number handles : ℕ) → ltb 0 number ≡ true → claimable number handles ≡ true → handles * 4 ≤ unknown_payload number
  number_fits zero handles q e = let h : 0 < 0 = ltb-true 0 0 q in omega arith
  number_fits (suc n) handles q e = leb-true (handles * 4) (suc n) e

  out_of_line_true : {d : D.Deeper} (row at : ℕ) → whole_words m (low_word m at) ≡ true → claimable (low_word m at) (handle_number m at) ≡ true → AllTruthful d → Truthful m (unknown_out_of_line m d row at)
  out_of_line_true row at w e a =
      let fits = number_fits (low_word m at) (handle_number m at) (both (eqb (low_word m at % 8) 0) (ltb 0 (low_word m at)) w).1 e in
      deeper_true at _ (λ rows below x b.
      emit_true m (low_word m at ∷ handle_number m at ∷ []) (claim_true m unknown_object row (low_word m at)
      (sequence_true m 0 (take_true m at (unknown_content (low_word m at) (handle_number m at)) (met_unknown m.bytes (low_word m at) (handle_number m at) fits))
      (elements_true m 8 (λ i. decode_word m 8) (λ i. word_true m 8) 0 (low_word m at / 8))))) a

  claimable_true : (payload at : ℕ) (r : D.Decoded) → (claimable payload (handle_number m at) ≡ true → True m r) → True m (require_claimable m payload at r)
  claimable_true payload at r x = true_require m (claimable payload (handle_number m at)) (fault handles_impossible (Byte at)) r x

  unknown_true : {d : D.Deeper} (row : ℕ) → AllTruthful d → Truthful m (unknown_envelope m d row)
  unfolding unknown_envelope
  unknown_true {d} row a = record {
    met = λ at next used.
        true_if m (eqb (flags m at) in_line) _ _ (claimable_true payload_in_line at (unknown_in_line m d at at next used) (λ e. (in_line_true at e a).met at next used))
        (true_require m (eqb (flags m at) out_of_line && whole_words m (low_word m at)) (fault envelope_form_wrong (Byte at)) _ (λ f.
        claimable_true (low_word m at) at (unknown_out_of_line m d row at at next used) (λ e.
        (out_of_line_true row at (both (eqb (flags m at) out_of_line) (whole_words m (low_word m at)) f).1 e a).met at next used)));
  }

  content_true : (edition : Edition) {d : D.Deeper} (row : ℕ) (content : Content) → AllTruthful d → Truthful m (decode_content edition m d row content)
  unfolding decode_content content_of_eight_bytes
  content_true eight_byte_envelopes row (known payload) a = known_true (leb (size_of m.table payload) 4) payload a
  content_true eight_byte_envelopes row unknown a = unknown_true row a

  -- ---- what a record leads to

  -- A handle's value is 1 only where its word is all ones.
  handle_word : (optional : Bool) (at v : ℕ) (p : Presence) → presence ones32 (word m.bytes at 4) ≡ p → presence_record optional at p ≡ got (suc v) → word m.bytes at 4 ≡ ones32
  handle_word optional at v absent q e =
      let i = read_if_inv (unless required_absent optional) at (got 0) e in
      let same : got 0 ≡ got (suc v) = i.1 in
      let z : 0 ≡ suc v = cc in
      absurd (omega arith)
  handle_word optional at v present q e = present_ones ones32 (word m.bytes at 4) q
  handle_word optional at v neither q e = absurd (wrong_not_got e)

  after_handle_true : (optional : Bool) (at v : ℕ) → read_presence m 4 ones32 optional at ≡ got v → Truthful m (W.after_handle m at v)
  unfolding read_presence
  after_handle_true optional at zero e = nothing_true m
  after_handle_true optional at (suc v) e =
      take_true m at (present_handle at) (met_handle m.bytes at (handle_word optional at v (presence ones32 (word m.bytes at 4)) refl e))

  module _ {d : D.Deeper} (a : AllTruthful d) where
    after_vector_true : (row element at v : ℕ) → Truthful m (W.after_vector m d row element at v)
    after_vector_true row element at zero = nothing_true m
    after_vector_true row element at (suc count) =
        let size = size_of m.table element in
        deeper_true at _ (λ rows below x b. claim_true m vector_object row (count * size) (elements_true m size (λ i. rows element) (λ i. x element) 0 count)) a

    after_string_true : (row at v : ℕ) → Truthful m (W.after_string m d row at v)
    after_string_true row at zero = nothing_true m
    after_string_true row at (suc count) =
        deeper_true at _ (λ rows below x b.
        claim_true m vector_object row (count * 1) (checked_true m is_utf8 W.bad_text (elements_true m 1 (λ i. decode_word m 1) (λ i. word_true m 1) 0 count))) a

    after_box_true : (element at v : ℕ) → Truthful m (W.after_box m d element at v)
    after_box_true element at zero = nothing_true m
    after_box_true element at (suc v) = deeper_true at _ (λ rows below x b. claim_true m boxed_object element (size_of m.table element) (x element)) a

    after_table_true : (row : ℕ) (content : ℕ → Content) (at count : ℕ) → Truthful m (W.after_table m d row content at count)
    after_table_true row content at count =
        let size = envelope_size m.table.edition in
        deeper_true at _ (λ rows below x b.
        claim_true m envelopes_object row (count * size) (last_true m size count
        (elements_true m size _ (λ ordinal. optional_true m size (eqb ordinal count) (content_true m.table.edition row (content ordinal) b)) 1 count))) a

    after_union_true : (row : ℕ) (content : ℕ → Content) (at v : ℕ) → Truthful m (W.after_union m d row content at v)
    after_union_true row content at zero = zero_true m (envelope_size m.table.edition) at
    after_union_true row content at (suc v) = present_true m (envelope_size m.table.edition) (content_true m.table.edition row (content (suc v)) a)

  -- ---- any row

  module _ (layouts : ℕ → Layout) (inner : ℕ → Decoder) (x : (row : ℕ) → Truthful m (inner row)) where
    fields_true : (fs : List Field) → Truthful m (W.fields m layouts inner fs)
    unfolding W.fields
    fields_true [] = nothing_true m
    fields_true (field row gap ∷ fs) = sequence_true m (layouts row).size (x row) (sequence_true m gap (fill_true m gap) (fields_true fs))

    struct_true : (fs : List Field) → Truthful m (W.struct_fields m layouts inner fs)
    unfolding W.struct_fields
    struct_true [] = fill_true m 1
    struct_true (f ∷ fs) = fields_true (f ∷ fs)

  if_true : (b : Bool) {f g : Decoder} → Truthful m f → Truthful m g → Truthful m (if b then f else g)
  if_true true x y = x
  if_true false x y = y

  module _ {d : D.Deeper} (a : AllTruthful d) where
    as_true : (layouts : ℕ → Layout) (inner : ℕ → Decoder) → ((row : ℕ) → Truthful m (inner row)) → (row : ℕ) (type : FidlType) → Truthful m (W.decode_as m d layouts inner row type)
    unfolding W.decode_as
    as_true layouts inner x row bool = number_true m 1 bool_pattern
    as_true layouts inner x row (number width) = word_true m width
    as_true layouts inner x row (handle optional) = record_true m 4 (read_presence m 4 ones32 optional) (W.after_handle m) (after_handle_true optional)
    as_true layouts inner x row (array element count) = elements_true m (layouts element).size (λ i. inner element) (λ i. x element) 0 count
    as_true layouts inner x row (vector element largest optional) =
        record_true m 16 (read_count m optional largest) (W.after_vector m d row element) (λ at v e. after_vector_true a row element at v)
    as_true layouts inner x row (string largest optional) = record_true m 16 (read_count m optional largest) (W.after_string m d row) (λ at v e. after_string_true a row at v)
    as_true layouts inner x row (struct first count) = struct_true layouts inner x (fields_of layouts (member_rows m.table first count))
    as_true layouts inner x row (box element) = record_true m 8 (read_presence m 8 ones64 true) (W.after_box m d element) (λ at v e. after_box_true a element at v)
    as_true layouts inner x row (table first count) =
        let content = content_of m.table first count in
        record_true m 16 (read_table m) (W.after_table m d row content) (λ at v e. after_table_true a row content at v)
    as_true layouts inner x row (union first count optional flexible) =
        let content = content_of m.table first count in
        record_true m 8 (read_number m 8 (ordinal_pattern content optional flexible)) (W.after_union m d row content) (λ at v e. after_union_true a row content at v)
    as_true layouts inner x row (strict_enum width first count) = number_true m width (enum_pattern m.table first count)
    as_true layouts inner x row (strict_bits width mask) = number_true m width (bits_pattern m.table mask)
    as_true layouts inner x row none = refuse_true m (fault table_not_sound (Row row))

    below_true : (bound row : ℕ) → Truthful m (W.decode_below m d bound row)
    unfolding W.decode_below below
    below_true zero row = refuse_true m (fault table_not_sound (Row 256))
    below_true (suc bound) row =
        if_true (eqb row bound) (as_true (layout_below m.table bound) (W.decode_below m d bound) (below_true bound) bound (type_of m.table bound)) (below_true bound row)

    row_true : (row : ℕ) → Truthful m (W.decode_row m d row)
    unfolding W.decode_row
    row_true row = as_true (layout_below m.table row) (W.decode_below m d row) (below_true row) row (type_of m.table row)

  levels_true : (depth : ℕ) → AllTruthful (W.levels m depth)
  unfolding W.levels
  levels_true zero = spent
  levels_true (suc depth) = deeper (row_true (levels_true depth)) (levels_true depth)

  pub walk_true : (root : ℕ) → Met m.bytes (trace_of (walk m root))
  unfolding walk
  walk_true root = (claim_true m primary_object root (size_of m.table root) (row_true (levels_true 32) root)).met 0 0 0
