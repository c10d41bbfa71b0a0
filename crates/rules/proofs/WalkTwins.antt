-- The walk and the writer are twins, kind by kind, for every type table.
use Rattle.std.specs.Prelude.{if◌then◌else◌}
use mathlib.Core.Path.{◌≡◌, refl}
use mathlib.Core.Bool.{Bool, true, false, ◌&&◌}
use mathlib.Core.List.{List, [], ◌∷◌}
use Prim.Native.Nat.{ℕ, zero, suc, ◌+◌, ◌-◌, ◌*◌, ◌≤◌, ◌<◌}
use native.Mathlib.Omega.{arith}
use lib.Dec.{leb, eqb}
use borrow.Author.Tests.{leb-true, leb-false, eq-eqb}
use lib.ListN.{length}
use Rattle.rules.specs.declared.Place.TheVariants.{Row, Byte}
use Rattle.rules.specs.declared.Fault.{Fault}
use Rattle.rules.specs.declared.Layout.{Layout}
use Rattle.rules.specs.Refusals.{fault, object_does_not_fit, table_not_sound, too_deep}
use Rattle.rules.specs.Bytes.{Octets, padded, ones32, ones64}
use Rattle.rules.specs.TypeTable.{Edition, eight_byte_envelopes, envelope_size, FidlType, bool, number, handle, array, vector, string, struct, box, table, union, strict_enum, strict_bits, none, type_of, member_rows, Content, known, unknown, content_of, below}
use Rattle.rules.specs.Sizes.{Field, field, fields_of, fields_size, struct_size, layout_as, layout_below, layout_of, size_of}
use Rattle.rules.specs.Text.{is_utf8}
use Rattle.rules.specs.Trace.{Event, claimed, vector_object, boxed_object, envelopes_object, payload_object}
use Rattle.rules.specs.Decode as D
use Rattle.rules.specs.Decode.{Message, went, stopped, Decoder}
use Rattle.rules.specs.Encode as E
use Rattle.rules.specs.Encode.{Encoder}
use Rattle.rules.specs.Records.{bool_pattern, enum_pattern, bits_pattern, ordinal_pattern}
use Rattle.rules.specs.Envelope.{decode_word, encode_word, in_line, out_of_line, payload_in_line, claimable, flags, handle_number, low_word, whole_words, known_as, write_known_as, unknown_envelope, write_unknown, content_of_eight_bytes, write_content_of_eight_bytes, decode_content, encode_content}
use Rattle.rules.specs.Walk as W
use Rattle.rules.specs.Writer as R
use Rattle.rules.proofs.Bytes.{padded_above}
use Rattle.rules.proofs.Results.{stopped_not_went, cannot_not_wrote, require_inv, After, after_inv}
use Rattle.rules.proofs.Twins.{Decodes, decodes, Twins, twins_nothing, twins_refuse, twins_size, twins_sequence, twins_elements, twins_fill}
use Rattle.rules.proofs.Claims.{twins_handle, twins_record, twins_claim}
use Rattle.rules.proofs.Records.{number_twins, presence_twins, count_twins, table_twins}
use Rattle.rules.proofs.Envelopes.{twins_checked, twins_numbered, twins_flagged}
use Rattle.rules.proofs.Presence.{NeverZero, Grows, twins_optional, last_not_zero, LastRuns, last_runs, twins_last, twins_zero_envelope, twins_present_envelope, never_zero_flag, never_zero_number}
use Rattle.rules.proofs.Unknown.{twins_number, twins_word, twins_content, never_zero_content}

-- What lies deeper, on both sides.
pub data DeeperTwins (m : Message) : D.Deeper → E.Deeper → Type 0 where
  both_spent : DeeperTwins m D.spent E.spent
  both_deeper : {F : ℕ → Decoder} {G : ℕ → Encoder} {d : D.Deeper} {e : E.Deeper} → ((row : ℕ) → Twins m (size_of m.table row) (F row) (G row)) → DeeperTwins m d e
      → DeeperTwins m (D.deeper F d) (E.deeper G e)

twins_deeper : (m : Message) (s at : ℕ) {d : D.Deeper} {e : E.Deeper} (k : (ℕ → Decoder) → D.Deeper → Decoder) (k₂ : (ℕ → Encoder) → E.Deeper → Encoder)
    → ((F : ℕ → Decoder) (G : ℕ → Encoder) (d : D.Deeper) (e : E.Deeper) → ((row : ℕ) → Twins m (size_of m.table row) (F row) (G row)) → DeeperTwins m d e → Twins m s (k F d) (k₂ G e))
    → DeeperTwins m d e → Twins m s (D.one_deeper d at k) (E.one_deeper e k₂)
twins_deeper m s at k k₂ f both_spent = twins_refuse m s (fault too_deep (Byte at)) too_deep
twins_deeper m s at k k₂ f (both_deeper {F} {G} {d} {e} a b) = f F G d e a b

-- A part that knows its place.
here_run : (f : ℕ → Decoder) {at n u n₁ u₁ : ℕ} {vs rest : List ℕ} → Decodes (f at) at n u n₁ u₁ vs rest → Decodes (D.here f) at n u n₁ u₁ vs rest
here_run f (decodes us t e) = decodes us t e

twins_here : (m : Message) (s : ℕ) (f : ℕ → Decoder) (g : Encoder) → ((at : ℕ) → Twins m s (f at) g) → Twins m s (D.here f) g
twins_here m s f g a = record {
  well_formed = λ e. (a 0).well_formed e;
  decodes_what_was_encoded = λ e {at} h k l. here_run f ((a at).decodes_what_was_encoded e h k l);
  encodes_what_was_decoded = λ {at} e h k rest. (a at).encodes_what_was_decoded e h k rest;
}

-- An object that is not empty moves the next free place.
module _ (m : Message) (kind row : ℕ) {s : ℕ} {f : Decoder} {g : Encoder} (positive : 0 < s) (a : Twins m s f g) where
  claim_grown : {n u n₁ u₁ : ℕ} {vs : List ℕ} {t : List Event} → After [] (claimed kind row n s ∷ []) (f n (n + padded s) u) n₁ u₁ vs t → n + padded s ≤ length m.bytes → n < n₁
  claim_grown {n} (After.after e) h =
      let l = padded_above s in
      let y = a.encodes_what_was_decoded e (omega arith) h [] in
      omega (arith, (a.well_formed y.writes).advances)

  claim_grows : Grows m (D.claim m kind row s f)
  unfolding D.claim
  claim_grows = record {
    grows = λ {at} {n} {u} e h k.
        let c = require_inv (leb (n + padded s) (length m.bytes)) (fault object_does_not_fit (Byte n)) _ e in
        let z = require_inv (D.is_zero m (n + s) (padded s - s)) _ _ c.1 in
        claim_grown (after_inv [] (claimed kind row n s ∷ []) (f n (n + padded s) u) z.1) (leb-true (n + padded s) (length m.bytes) c.0);
  }

module _ (m : Message) (oct : Octets m.bytes) (short : length m.bytes ≤ 65536) (few : m.handles ≤ 64) where
  -- ---- envelopes of eight bytes

  twins_known : (row : ℕ) (small : Bool) → leb (size_of m.table row) 4 ≡ small → {d : D.Deeper} {e : E.Deeper} → DeeperTwins m d e
      → Twins m 8 (known_as m small d row) (write_known_as m.table small e row)
  twins_known row true q {d} {e} g =
      let s = size_of m.table row in
      let whole : size_of m.table row + (4 - size_of m.table row) ≡ 4 = omega (arith, leb-true (size_of m.table row) 4 q) in
      twins_flagged m oct few in_line (omega arith)
      (twins_size m whole
      (twins_sequence m
      (twins_here m s (λ at. D.one_deeper d at (λ rows b. rows row)) (E.one_deeper e (λ rows b. rows row))
      (λ at. twins_deeper m s at (λ rows b. rows row) (λ rows b. rows row) (λ F G o o₂ a b. a row) g))
      (twins_fill m (4 - s))))
  twins_known row false q {d} {e} g =
      let s = size_of m.table row in
      twins_flagged m oct few out_of_line (omega arith)
      (twins_numbered m oct short
      (twins_here m 0 (λ at. D.one_deeper d at (λ rows b. D.claim m payload_object row s (rows row))) (E.one_deeper e (λ rows b. E.claim s (rows row)))
      (λ at. twins_deeper m 0 at (λ rows b. D.claim m payload_object row s (rows row)) (λ rows b. E.claim s (rows row)) (λ F G o o₂ a b. twins_claim m short payload_object row refl (a row)) g)))

  known_grows : (row : ℕ) → 4 < size_of m.table row → {d : D.Deeper} {e : E.Deeper} → DeeperTwins m d e
      → Grows m (D.here (λ at. D.one_deeper d at (λ rows b. D.claim m payload_object row (size_of m.table row) (rows row))))
  known_grows row h both_spent = record { grows = λ e x y. absurd (stopped_not_went e) }
  known_grows row h (both_deeper {F} a b) = record { grows = λ e x y. (claim_grows m payload_object row (omega arith) (a row)).grows e x y }

  never_zero_known : (row : ℕ) (small : Bool) → leb (size_of m.table row) 4 ≡ small → {d : D.Deeper} {e : E.Deeper} → DeeperTwins m d e → NeverZero m 8 (known_as m small d row)
  never_zero_known row true q g = never_zero_flag m _
  never_zero_known row false q g = never_zero_number m out_of_line _ (known_grows row (leb-false (size_of m.table row) 4 q) g)

  spent_stops : (f₁ f₂ f₃ f₄ f₅ : Fault) (i a b c : Bool) {n u : ℕ} {vs : List ℕ} {t : List Event}
      → (if i then D.require a f₁ (stopped f₂ [] []) else D.require b f₃ (D.require c f₄ (stopped f₅ [] []))) ≡ went n u vs t → ⊥
  spent_stops f₁ f₂ f₃ f₄ f₅ true a b c e = stopped_not_went (require_inv a f₁ (stopped f₂ [] []) e).1
  spent_stops f₁ f₂ f₃ f₄ f₅ false a b c e = stopped_not_went (require_inv c f₄ (stopped f₅ [] []) (require_inv b f₃ _ e).1).1

  unknown_spent : (row at n u : ℕ) {n₁ u₁ : ℕ} {vs : List ℕ} {t : List Event} → unknown_envelope m D.spent row at n u ≡ went n₁ u₁ vs t → ⊥
  unfolding unknown_envelope
  unknown_spent row at n u e = spent_stops _ _ _ _ _ (eqb (flags m at) in_line) (claimable payload_in_line (handle_number m at)) (eqb (flags m at) out_of_line && whole_words m (low_word m at)) (claimable (low_word m at) (handle_number m at)) e

  twins_unknown : (row : ℕ) {d : D.Deeper} {e : E.Deeper} → DeeperTwins m d e → Twins m 8 (unknown_envelope m d row) (write_unknown e)
  unfolding write_unknown
  twins_unknown row both_spent = record {
    well_formed = λ e. absurd (cannot_not_wrote e);
    decodes_what_was_encoded = λ e h k l. absurd (cannot_not_wrote e);
    encodes_what_was_decoded = λ {at} {n} {u} e h k rest. absurd (unknown_spent row at n u e);
  }
  twins_unknown row (both_deeper {F} {G} {d} a b) = twins_content m oct short few row F d

  never_zero_unknown : (row : ℕ) {d : D.Deeper} {e : E.Deeper} → DeeperTwins m d e → NeverZero m 8 (unknown_envelope m d row)
  never_zero_unknown row both_spent = record { nonzero = λ {at} {n} {u} e h k z. unknown_spent row at n u e }
  never_zero_unknown row (both_deeper {F} {G} {d} a b) = never_zero_content m oct short few row F d

  twins_eight_bytes : (row : ℕ) (content : Content) {d : D.Deeper} {e : E.Deeper} → DeeperTwins m d e → Twins m 8 (content_of_eight_bytes m d row content) (write_content_of_eight_bytes m.table e content)
  unfolding content_of_eight_bytes write_content_of_eight_bytes
  twins_eight_bytes row (known payload) g = twins_known payload (leb (size_of m.table payload) 4) refl g
  twins_eight_bytes row unknown g = twins_unknown row g

  never_zero_eight_bytes : (row : ℕ) (content : Content) {d : D.Deeper} {e : E.Deeper} → DeeperTwins m d e → NeverZero m 8 (content_of_eight_bytes m d row content)
  unfolding content_of_eight_bytes
  never_zero_eight_bytes row (known payload) g = never_zero_known payload (leb (size_of m.table payload) 4) refl g
  never_zero_eight_bytes row unknown g = never_zero_unknown row g

  -- ---- any edition

  twins_envelope : (edition : Edition) (row : ℕ) (content : Content) {d : D.Deeper} {e : E.Deeper} → DeeperTwins m d e
      → Twins m (envelope_size edition) (decode_content edition m d row content) (encode_content edition m.table e content)
  unfolding envelope_size decode_content encode_content
  twins_envelope eight_byte_envelopes row content g = twins_eight_bytes row content g

  never_zero_envelope : (edition : Edition) (row : ℕ) (content : Content) {d : D.Deeper} {e : E.Deeper} → DeeperTwins m d e
      → NeverZero m (envelope_size edition) (decode_content edition m d row content)
  unfolding envelope_size decode_content
  never_zero_envelope eight_byte_envelopes row content g = never_zero_eight_bytes row content g

  -- ---- what a record leads to

  twins_after_handle : (at v : ℕ) → Twins m 0 (W.after_handle m at v) (R.after_handle m.table v)
  twins_after_handle at zero = twins_nothing m
  twins_after_handle at (suc v) = twins_handle m few at _

  module _ {d : D.Deeper} {e : E.Deeper} (g : DeeperTwins m d e) where
    twins_after_vector : (row element at v : ℕ) → Twins m 0 (W.after_vector m d row element at v) (R.after_vector m.table e element v)
    twins_after_vector row element at zero = twins_nothing m
    twins_after_vector row element at (suc count) =
        let s = size_of m.table element in
        twins_deeper m 0 at _ _ (λ F G o o₂ a b. twins_claim m short vector_object row refl (twins_elements m s (λ i. F element) (λ i. G element) (λ i. a element) 0 count)) g

    twins_after_string : (row at v : ℕ) → Twins m 0 (W.after_string m d row at v) (R.after_string m.table e v)
    twins_after_string row at zero = twins_nothing m
    twins_after_string row at (suc count) =
        twins_deeper m 0 at _ _ (λ F G o o₂ a b. twins_claim m short vector_object row refl (twins_checked m is_utf8 W.bad_text
        (twins_elements m 1 (λ i. decode_word m 1) (λ i. encode_word 1) (λ i. twins_word m oct 1) 0 count))) g

    twins_after_box : (element at v : ℕ) → Twins m 0 (W.after_box m d element at v) (R.after_box m.table e element v)
    twins_after_box element at zero = twins_nothing m
    twins_after_box element at (suc v) = twins_deeper m 0 at _ _ (λ F G o o₂ a b. twins_claim m short boxed_object element refl (a element)) g

    twins_after_union : (row : ℕ) (content : ℕ → Content) (at v : ℕ) → Twins m (envelope_size m.table.edition) (W.after_union m d row content at v) (R.after_union m.table e content v)
    twins_after_union row content at zero = twins_zero_envelope m (envelope_size m.table.edition) at
    twins_after_union row content at (suc v) =
        twins_present_envelope m (envelope_size m.table.edition) (twins_envelope m.table.edition row (content (suc v)) g) (never_zero_envelope m.table.edition row (content (suc v)) g)

  -- A table's envelopes, and that the last is present.
  module _ {d : D.Deeper} {e : E.Deeper} (g : DeeperTwins m d e) (row : ℕ) (content : ℕ → Content) where
    abbrev envelope_at : (count ordinal : ℕ) → Decoder
    envelope_at count ordinal =
        D.optional_envelope m (envelope_size m.table.edition) (eqb ordinal count) (decode_content m.table.edition m d row (content ordinal))

    abbrev write_envelope_at : (count ordinal : ℕ) → Encoder
    write_envelope_at count ordinal =
        E.optional_envelope (envelope_size m.table.edition) (eqb ordinal count) (encode_content m.table.edition m.table e (content ordinal))

    twins_envelopes : (count : ℕ) → Twins m (count * envelope_size m.table.edition) (D.elements (envelope_size m.table.edition) (envelope_at count) 1 count) (E.elements (write_envelope_at count) 1 count)
    twins_envelopes count =
        let size = envelope_size m.table.edition in
        twins_elements m size (envelope_at count) (write_envelope_at count)
        (λ i. twins_optional m size (eqb i count) (twins_envelope m.table.edition row (content i) g) (never_zero_envelope m.table.edition row (content i) g)) 1 count

    last_at : (c at : ℕ) → LastRuns (envelope_at (suc c) (1 + c)) (at + c * envelope_size m.table.edition) → D.is_zero m (at + c * envelope_size m.table.edition) (envelope_size m.table.edition) ≡ false
    last_at c at r =
        let size = envelope_size m.table.edition in
        let x : eqb (1 + c) (suc c) ≡ true = eq-eqb (1 + c) (suc c) (omega arith) in
        last_not_zero m size (decode_content m.table.edition m d row (content (1 + c))) (at + c * size) r.n r.u (rw x at r.runs)

    twins_table : (count : ℕ)
        → Twins m (count * envelope_size m.table.edition) (D.last_present m (envelope_size m.table.edition) count (D.elements (envelope_size m.table.edition) (envelope_at count) 1 count)) (E.elements (write_envelope_at count) 1 count)
    unfolding D.last_present
    twins_table zero = twins_envelopes zero
    twins_table (suc c) =
        let size = envelope_size m.table.edition in
        twins_last m size c (twins_envelopes (suc c)) (λ at n u n₁ u₁ vs t r. last_at c at (last_runs size (envelope_at (suc c)) c 1 at n u r))

  twins_after_table : {d : D.Deeper} {e : E.Deeper} → DeeperTwins m d e → (row : ℕ) (content : ℕ → Content) (at v : ℕ)
      → Twins m 0 (W.after_table m d row content at v) (R.after_table m.table e content v)
  twins_after_table g row content at count =
      twins_deeper m 0 at _ _ (λ F G o o₂ a b. twins_claim m short envelopes_object row refl (twins_table b row content count)) g

  -- ---- a struct

  module _ (layouts : ℕ → Layout) (inner : ℕ → Decoder) (inner_writer : ℕ → Encoder) (a : (row : ℕ) → Twins m (layouts row).size (inner row) (inner_writer row)) where
    twins_fields : (fs : List Field) → Twins m (fields_size layouts fs) (W.fields m layouts inner fs) (R.fields inner_writer fs)
    unfolding fields_size W.fields R.fields
    twins_fields [] = twins_nothing m
    twins_fields (field row gap ∷ fs) = twins_sequence m (a row) (twins_sequence m (twins_fill m gap) (twins_fields fs))

    twins_struct : (fs : List Field) → Twins m (struct_size layouts fs) (W.struct_fields m layouts inner fs) (R.struct_fields inner_writer fs)
    unfolding struct_size W.struct_fields R.struct_fields
    twins_struct [] = twins_fill m 1
    twins_struct (f ∷ fs) = twins_fields (f ∷ fs)

  -- ---- any row

  twins_if : (b : Bool) (l₁ l₂ : Layout) {f₁ f₂ : Decoder} {g₁ g₂ : Encoder} → Twins m l₁.size f₁ g₁ → Twins m l₂.size f₂ g₂
      → Twins m (if b then l₁ else l₂).size (if b then f₁ else f₂) (if b then g₁ else g₂)
  twins_if true l₁ l₂ x y = x
  twins_if false l₁ l₂ x y = y

  module _ {d : D.Deeper} {e : E.Deeper} (g : DeeperTwins m d e) where
    twins_as : (layouts : ℕ → Layout) (inner : ℕ → Decoder) (inner_writer : ℕ → Encoder) → ((row : ℕ) → Twins m (layouts row).size (inner row) (inner_writer row)) → (row : ℕ) (type : FidlType)
        → Twins m (layout_as m.table layouts type).size (W.decode_as m d layouts inner row type) (R.encode_as m.table e layouts inner_writer type)
    unfolding layout_as W.decode_as R.encode_as
    twins_as layouts inner inner_writer a row bool = twins_number m oct 1 bool_pattern
    twins_as layouts inner inner_writer a row (number width) = twins_word m oct width
    twins_as layouts inner inner_writer a row (handle optional) = twins_record m (presence_twins m oct 4 ones32 optional (omega arith) (omega arith)) twins_after_handle
    twins_as layouts inner inner_writer a row (array element count) = twins_elements m (layouts element).size (λ i. inner element) (λ i. inner_writer element) (λ i. a element) 0 count
    twins_as layouts inner inner_writer a row (vector element largest optional) = twins_record m (count_twins m oct optional largest) (twins_after_vector g row element)
    twins_as layouts inner inner_writer a row (string largest optional) = twins_record m (count_twins m oct optional largest) (twins_after_string g row)
    twins_as layouts inner inner_writer a row (struct first count) = twins_struct layouts inner inner_writer a (fields_of layouts (member_rows m.table first count))
    twins_as layouts inner inner_writer a row (box element) = twins_record m (presence_twins m oct 8 ones64 true (omega arith) (omega arith)) (twins_after_box g element)
    twins_as layouts inner inner_writer a row (table first count) = twins_record m (table_twins m oct) (twins_after_table g row (content_of m.table first count))
    twins_as layouts inner inner_writer a row (union first count optional flexible) =
        twins_record m (number_twins m oct 8 (ordinal_pattern (content_of m.table first count) optional flexible)) (twins_after_union g row (content_of m.table first count))
    twins_as layouts inner inner_writer a row (strict_enum width first count) = twins_number m oct width (enum_pattern m.table first count)
    twins_as layouts inner inner_writer a row (strict_bits width mask) = twins_number m oct width (bits_pattern m.table mask)
    twins_as layouts inner inner_writer a row none = twins_refuse m 0 (fault table_not_sound (Row row)) table_not_sound

    twins_below : (bound row : ℕ) → Twins m (layout_below m.table bound row).size (W.decode_below m d bound row) (R.encode_below m.table e bound row)
    unfolding layout_below W.decode_below R.encode_below below
    twins_below zero row = twins_refuse m 0 (fault table_not_sound (Row 256)) table_not_sound
    twins_below (suc bound) row =
        twins_if (eqb row bound) (layout_as m.table (layout_below m.table bound) (type_of m.table bound)) (layout_below m.table bound row)
        (twins_as (layout_below m.table bound) (W.decode_below m d bound) (R.encode_below m.table e bound) (twins_below bound) bound (type_of m.table bound)) (twins_below bound row)

    pub twins_row : (row : ℕ) → Twins m (size_of m.table row) (W.decode_row m d row) (R.encode_row m.table e row)
    unfolding layout_of W.decode_row R.encode_row
    twins_row row =
        twins_as (layout_below m.table row) (W.decode_below m d row) (R.encode_below m.table e row) (twins_below row) row (type_of m.table row)

  pub twins_levels : (depth : ℕ) → DeeperTwins m (W.levels m depth) (R.levels m.table depth)
  unfolding W.levels R.levels
  twins_levels zero = both_spent
  twins_levels (suc depth) = both_deeper (twins_row (twins_levels depth)) (twins_levels depth)
