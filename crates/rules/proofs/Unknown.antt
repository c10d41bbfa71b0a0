-- The content of an unknown ordinal: its twins, with the writer's exact order of refusals.
use Rattle.std.specs.Prelude.{if◌then◌else◌}
use mathlib.Core.Path.{◌≡◌, refl, ap}
use mathlib.Core.Bool.{Bool, true, false, ◌&&◌}
use mathlib.Core.List.{List, [], ◌∷◌, ◌++◌, append-nil}
use Prim.Native.Nat.{ℕ, ◌+◌, ◌-◌, ◌*◌, ◌/◌, ◌%◌, ◌≤◌, ◌<◌}
use native.Mathlib.Nat.{add-zero}
use native.Mathlib.Omega.{arith}
use lib.Dec.{leb, ltb, eqb}
use borrow.Author.Tests.{leb-true, le-leb, ltb-true, lt-ltb, eqb-true, eqb-false, ne_eqb}
use lib.ListN.{length, length-append}
use Rattle.rules.specs.declared.Place.TheVariants.{Byte}
use Rattle.rules.specs.Refusals.{fault, object_does_not_fit, envelope_form_wrong, handles_impossible, message_too_long, not_a_value}
use Rattle.rules.specs.Bytes.{Octets, word, bytes_of, zeros, padded}
use Rattle.rules.specs.Trace.{Event, claimed, unknown_content, unknown_object, object_list, present_handles, unknown_handles, unknown_out_of_line, unknown_lengths, Tiles}
use Rattle.rules.specs.Decode as D
use Rattle.rules.specs.Decode.{Message, Decoded, went, Decoder}
use Rattle.rules.specs.Encode as E
use Rattle.rules.specs.Encode.{wrote, Encoder}
use Rattle.rules.specs.Records.{Judged, any_pattern, read_number, write_number}
use Rattle.rules.specs.Envelope.{decode_word, encode_word, in_line, out_of_line, payload_in_line, envelope_bytes, low_word, handle_number, flags, whole_words, unknown_envelope, byte_number_fits, handle_number_fits, word_fits, write_words, write_unknown_in_line, write_unknown_out_of_line}
use Rattle.rules.proofs.Tests.{both}
use Rattle.rules.proofs.Bytes.{StandsAt, stands_nil, stands_left, stands_right, stands_join, octets_append, octets_bytes_of, octets_nil, bytes_of_length, word_standing, standing_word, word_below, word_add, word_zeros, padded_above}
use Rattle.rules.proofs.Results.{cannot_not_wrote, require_inv, write_require_inv, After, after_inv, WriteAfter, write_after_inv, Then, then_inv, WriteThen, write_then_inv, Took, took, took_inv, Taken, taken, taken_inv, AsObject, object, object_inv}
use Rattle.rules.proofs.Twins.{WellFormed, Decodes, decodes, Encodes, Twins, twins_nothing, twins_size, twins_elements, zero_standing, standing_zero}
use Rattle.rules.proofs.Claims.{twins_record, object_form, object_stands, stands_object}
use Rattle.rules.proofs.Records.{number_twins}
use Rattle.rules.proofs.Envelopes.{tail_stands, stands_tail}
use Rattle.rules.proofs.Presence.{NeverZero}

-- ---- numbers that lead to nothing else, and words

pub twins_number : (m : Message) → Octets m.bytes → (width : ℕ) (judge : ℕ → Judged)
    → Twins m width (D.record_then width (read_number m width judge) (λ at v. D.nothing)) (E.record_then (write_number width judge) (λ v. E.nothing))
twins_number m oct width judge =
    let e : width + 0 ≡ width = omega arith in
    twins_size m e (twins_record m (number_twins m oct width judge) (λ at v. twins_nothing m))

pub twins_word : (m : Message) → Octets m.bytes → (width : ℕ) → Twins m width (decode_word m width) (encode_word width)
unfolding decode_word encode_word
twins_word m oct width = twins_number m oct width any_pattern

-- The words of unknown content out of line: its byte number is a multiple of 8.
words_twins : (m : Message) → Octets m.bytes → (bytes : ℕ) → bytes % 8 ≡ 0
    → Twins m bytes (D.elements 8 (λ i. decode_word m 8) 0 (bytes / 8)) (E.elements (λ i. encode_word 8) 0 (bytes / 8))
words_twins m oct bytes h =
    let e : bytes / 8 * 8 ≡ bytes = omega arith in
    twins_size m e (twins_elements m 8 (λ i. decode_word m 8) (λ i. encode_word 8) (λ i. twins_word m oct 8) 0 (bytes / 8))

-- ---- the envelope's eight bytes

envelope_form : (x h form : ℕ) → (length (envelope_bytes x h form) ≡ 8) × Octets (envelope_bytes x h form)
envelope_form x h form =
    (simp (length-append, bytes_of_length), octets_append _ _ (octets_bytes_of 4 x) (octets_append _ _ (octets_bytes_of 2 h) (octets_bytes_of 2 form)))

envelope_reads : (m : Message) (at x h form : ℕ) → x < 4294967296 → h < 65536 → form < 65536 → StandsAt m.bytes at (envelope_bytes x h form)
    → (low_word m at ≡ x) × (handle_number m at ≡ h) × (flags m at ≡ form)
envelope_reads m at x h form a b c s =
    let t = tail_stands m.bytes at h form b c (rw bytes_of_length at (stands_right m.bytes at (bytes_of 4 x) (bytes_of 2 h ++ bytes_of 2 form) s)) in
    (word_standing m.bytes at 4 x a (stands_left m.bytes at _ _ s), t.0, t.1)

envelope_stands : (m : Message) (at form : ℕ) → Octets m.bytes → at + 8 ≤ length m.bytes → flags m at ≡ form → StandsAt m.bytes at (envelope_bytes (low_word m at) (handle_number m at) form)
envelope_stands m at form o l e =
    stands_join m.bytes at _ _ (standing_word m.bytes at 4 o (omega arith)) (rw bytes_of_length (stands_tail m.bytes at (handle_number m at) form o l refl e))

-- ---- what the writer takes

data NumberOf (holds : ℕ → Bool) (k : ℕ → Encoder) (n u n₁ u₁ : ℕ) (rest : List ℕ) : List ℕ → List ℕ → List ℕ → Type 0 where
  number_of : {v : ℕ} {vs inl ool : List ℕ} → holds v ≡ true → k v vs n u ≡ wrote inl ool n₁ u₁ rest → NumberOf holds k n u n₁ u₁ rest (v ∷ vs) inl ool

number_inv : (holds : ℕ → Bool) (k : ℕ → Encoder) (vs : List ℕ) {n u n₁ u₁ : ℕ} {rest inl ool : List ℕ} → E.number_then holds k vs n u ≡ wrote inl ool n₁ u₁ rest
    → NumberOf holds k n u n₁ u₁ rest vs inl ool
unfolding E.number_then
number_inv holds k [] e = absurd (cannot_not_wrote e)
number_inv holds k (v ∷ vs) {n} {u} e =
    let i = write_require_inv (holds v) not_a_value (E.last_taken vs) (k v vs n u) e in
    number_of i.0 i.1

-- Handles, then a part.
data TakenThen (count : ℕ) (k : Encoder) (vs : List ℕ) (n u n₁ u₁ : ℕ) (inl ool rest : List ℕ) : Type 0 where
  taken_then : u + count ≤ 64 → k vs n (u + count) ≡ wrote inl ool n₁ u₁ rest → TakenThen count k vs n u n₁ u₁ inl ool rest

taken_join : {count : ℕ} {k : Encoder} {vs : List ℕ} {n u n₁ u₁ n₂ u₂ : ℕ} {inl₁ ool₁ rest₁ inl ool rest : List ℕ} → Taken count vs n u inl₁ ool₁ n₁ u₁ rest₁
    → k rest₁ n₁ u₁ ≡ wrote inl ool n₂ u₂ rest → TakenThen count k vs n u n₂ u₂ (inl₁ ++ inl) (ool₁ ++ ool) rest
taken_join (taken h) e = taken_then h e

taken_then_go : {count : ℕ} {k : Encoder} {vs : List ℕ} {n u n₁ u₁ : ℕ} {inl ool rest : List ℕ} → WriteThen (E.take_handles count vs n u) k inl ool n₁ u₁ rest
    → TakenThen count k vs n u n₁ u₁ inl ool rest
taken_then_go {count} {k} {vs} {n} {u} (WriteThen.both e₁ e₂) = taken_join (taken_inv count vs n u e₁) e₂

taken_then_inv : (count : ℕ) (k : Encoder) (vs : List ℕ) (n u : ℕ) {inl ool : List ℕ} {n₁ u₁ : ℕ} {rest : List ℕ} → E.sequence (E.take_handles count) k vs n u ≡ wrote inl ool n₁ u₁ rest
    → TakenThen count k vs n u n₁ u₁ inl ool rest
unfolding E.sequence
taken_then_inv count k vs n u e = taken_then_go (write_then_inv (E.take_handles count vs n u) k e)

-- A handle number that the writer takes.
record Fits (payload h : ℕ) : Type 0 where
  small : h < 65536
  room : h * 4 ≤ payload

fits_of : (payload h : ℕ) → handle_number_fits payload h ≡ true → Fits payload h
fits_of payload h e =
    let i = both (ltb h 65536) (leb (h * 4) payload) e in
    record { small = ltb-true h 65536 i.0; room = leb-true (h * 4) payload i.1 }

-- Unknown content that was written, in line or out of line.
data Wrote (n u : ℕ) (rest : List ℕ) : ℕ → ℕ → List ℕ → List ℕ → List ℕ → Type 0 where
  inside : {h w : ℕ} → Fits payload_in_line h → u + h ≤ 64 → w < 4294967296 → Wrote n u rest n (u + h) (0 ∷ h ∷ w ∷ rest) (envelope_bytes w h in_line) []
  outside : {x h n₁ u₁ : ℕ} {vs inl ool : List ℕ} → 0 < x → x % 8 ≡ 0 → x < 4294967296 → leb (n + padded x) 65536 ≡ true → Fits x h → u + h ≤ 64
      → AsObject x (E.elements (λ i. encode_word 8) 0 (x / 8) vs (n + padded x) (u + h)) n₁ u₁ rest inl ool → Wrote n u rest n₁ u₁ (x ∷ h ∷ vs) (envelope_bytes x h out_of_line) ool

inside_word : {h n u n₁ u₁ : ℕ} {vs rest inl ool : List ℕ} → Fits payload_in_line h → u + h ≤ 64
    → NumberOf word_fits (λ word. E.inline_bytes (envelope_bytes word h in_line)) n (u + h) n₁ u₁ rest vs inl ool → Wrote n u rest n₁ u₁ (0 ∷ h ∷ vs) inl ool
unfolding E.inline_bytes
inside_word {h} {n} {u} {n₁} {u₁} {rest = rest} {inl} {ool} a b (number_of {v = w} {vs = vs} c e) =
    let p : inl ≡ envelope_bytes w h in_line = cc in
    let q : ool ≡ [] = cc in
    let r : n₁ ≡ n = cc in
    let s : u₁ ≡ u + h = cc in
    let t : vs ≡ rest = cc in
    rw (p, q, r, s, t) (inside a b (ltb-true w 4294967296 c))

inside_handles : {h n u n₁ u₁ : ℕ} {vs rest inl ool : List ℕ} → Fits payload_in_line h
    → TakenThen h (E.number_then word_fits (λ word. E.inline_bytes (envelope_bytes word h in_line))) vs n u n₁ u₁ inl ool rest → Wrote n u rest n₁ u₁ (0 ∷ h ∷ vs) inl ool
inside_handles {h} {vs = vs} a (taken_then b e) = inside_word a b (number_inv word_fits (λ word. E.inline_bytes (envelope_bytes word h in_line)) vs e)

inside_number : {n u n₁ u₁ : ℕ} {vs rest inl ool : List ℕ}
    → NumberOf (handle_number_fits payload_in_line) (λ h. E.sequence (E.take_handles h) (E.number_then word_fits (λ word. E.inline_bytes (envelope_bytes word h in_line)))) n u n₁ u₁ rest vs inl ool
    → Wrote n u rest n₁ u₁ (0 ∷ vs) inl ool
inside_number {n} {u} (number_of {v = h} {vs = vs} a e) =
    inside_handles (fits_of payload_in_line h a) (taken_then_inv h (E.number_then word_fits (λ word. E.inline_bytes (envelope_bytes word h in_line))) vs n u e)

inside_inv : (vs : List ℕ) {n u n₁ u₁ : ℕ} {rest inl ool : List ℕ} → write_unknown_in_line vs n u ≡ wrote inl ool n₁ u₁ rest → Wrote n u rest n₁ u₁ (0 ∷ vs) inl ool
unfolding write_unknown_in_line
inside_inv vs e = inside_number (number_inv (handle_number_fits payload_in_line) _ vs e)

module _ (x : ℕ) (positive : 0 < x) (whole : x % 8 ≡ 0) (small : x < 4294967296) where
  outside_object : {h n u n₁ u₁ : ℕ} {vs rest inl ool : List ℕ} → leb (n + padded x) 65536 ≡ true → Fits x h → u + h ≤ 64
      → AsObject x (E.elements (λ i. encode_word 8) 0 (x / 8) vs (n + padded x) (u + h)) n₁ u₁ rest inl ool
      → Wrote n u rest n₁ u₁ (x ∷ h ∷ vs) (envelope_bytes x h out_of_line ++ inl) ool
  outside_object {h} {n} {u} {n₁} {u₁} {vs} {rest} a b c (object {inl = i} {ool = o} e) =
      let q : envelope_bytes x h out_of_line ++ [] ≡ envelope_bytes x h out_of_line = simp append-nil in
      rw q (outside positive whole small a b c (object e))

  outside_words : {h n u n₁ u₁ : ℕ} {vs rest inl ool : List ℕ} → leb (n + padded x) 65536 ≡ true → Fits x h → u + h ≤ 64
      → WriteAfter (envelope_bytes x h out_of_line) [] (E.as_object x (E.elements (λ i. encode_word 8) 0 (x / 8) vs (n + padded x) (u + h))) n₁ u₁ rest inl ool
      → Wrote n u rest n₁ u₁ (x ∷ h ∷ vs) inl ool
  outside_words a b c (WriteAfter.after e) = outside_object a b c (object_inv x _ e)

  outside_handles : {h n u n₁ u₁ : ℕ} {vs rest inl ool : List ℕ} → leb (n + padded x) 65536 ≡ true → Fits x h → TakenThen h (write_words x h) vs n u n₁ u₁ inl ool rest
      → Wrote n u rest n₁ u₁ (x ∷ h ∷ vs) inl ool
  unfolding write_words
  outside_handles {h} a b (taken_then c e) = outside_words a b c (write_after_inv (envelope_bytes x h out_of_line) [] _ e)

  outside_number : {n u n₁ u₁ : ℕ} {vs rest inl ool : List ℕ} → leb (n + padded x) 65536 ≡ true
      → NumberOf (handle_number_fits x) (λ h. E.sequence (E.take_handles h) (write_words x h)) n u n₁ u₁ rest vs inl ool → Wrote n u rest n₁ u₁ (x ∷ vs) inl ool
  outside_number {n} {u} a (number_of {v = h} {vs = vs} b e) = outside_handles a (fits_of x h b) (taken_then_inv h (write_words x h) vs n u e)

  outside_inv : (vs : List ℕ) {n u n₁ u₁ : ℕ} {rest inl ool : List ℕ} → write_unknown_out_of_line x vs n u ≡ wrote inl ool n₁ u₁ rest → Wrote n u rest n₁ u₁ (x ∷ vs) inl ool
  unfolding write_unknown_out_of_line
  outside_inv vs {n} {u} e =
      let i = write_require_inv (leb (n + padded x) 65536) message_too_long (E.last_taken vs) _ e in
      outside_number i.0 (number_inv (handle_number_fits x) (λ h. E.sequence (E.take_handles h) (write_words x h)) vs i.1)

abbrev write_content : Encoder
write_content = E.number_then byte_number_fits (λ bytes. if eqb bytes 0 then write_unknown_in_line else write_unknown_out_of_line bytes)

content_go : (x : ℕ) (b : Bool) → eqb x 0 ≡ b → byte_number_fits x ≡ true → (vs : List ℕ) {n u n₁ u₁ : ℕ} {rest inl ool : List ℕ}
    → (if b then write_unknown_in_line else write_unknown_out_of_line x) vs n u ≡ wrote inl ool n₁ u₁ rest → Wrote n u rest n₁ u₁ (x ∷ vs) inl ool
content_go x true q f vs e = let z : x ≡ 0 = eqb-true x 0 q in rw z (inside_inv vs e)
content_go x false q f vs e =
    let i = both (eqb (x % 8) 0) (ltb x 4294967296) f in
    let positive : (x ≡ 0 → ⊥) = eqb-false x 0 q in
    outside_inv x (omega arith) (eqb-true (x % 8) 0 i.0) (ltb-true x 4294967296 i.1) vs e

content_number : {n u n₁ u₁ : ℕ} {vs rest inl ool : List ℕ}
    → NumberOf byte_number_fits (λ bytes. if eqb bytes 0 then write_unknown_in_line else write_unknown_out_of_line bytes) n u n₁ u₁ rest vs inl ool → Wrote n u rest n₁ u₁ vs inl ool
content_number (number_of {v = x} {vs = vs} f e) = content_go x (eqb x 0) refl f vs e

content_inv : (vs : List ℕ) {n u n₁ u₁ : ℕ} {rest inl ool : List ℕ} → write_content vs n u ≡ wrote inl ool n₁ u₁ rest → Wrote n u rest n₁ u₁ vs inl ool
content_inv vs e = content_number (number_inv byte_number_fits _ vs e)

-- And back: what is so is written so.
inside_writes : (h w n u : ℕ) (rest : List ℕ) → Fits payload_in_line h → u + h ≤ 64 → w < 4294967296
    → write_content (0 ∷ h ∷ w ∷ rest) n u ≡ wrote (envelope_bytes w h in_line) [] n (u + h) rest
unfolding E.number_then E.sequence E.take_handles E.inline_bytes write_unknown_in_line
inside_writes h w n u rest a b c =
    let x : ltb h 65536 ≡ true = lt-ltb h 65536 a.small in
    let r : leb (h * 4) 4 ≡ true = le-leb (h * 4) 4 a.room in
    let y : leb (u + h) 64 ≡ true = le-leb (u + h) 64 b in
    let z : ltb w 4294967296 ≡ true = lt-ltb w 4294967296 c in
    rw (x, r, y, z)

outside_writes : (x h n u n₁ u₁ : ℕ) (vs rest inl ool : List ℕ) → 0 < x → x % 8 ≡ 0 → x < 4294967296 → n + padded x ≤ 65536 → Fits x h → u + h ≤ 64
    → E.elements (λ i. encode_word 8) 0 (x / 8) vs (n + padded x) (u + h) ≡ wrote inl ool n₁ u₁ rest
    → write_content (x ∷ h ∷ vs) n u ≡ wrote (envelope_bytes x h out_of_line) ((inl ++ zeros (padded x - x)) ++ ool) n₁ u₁ rest
unfolding E.number_then E.sequence E.take_handles write_unknown_out_of_line write_words
outside_writes x h n u n₁ u₁ vs rest inl ool a b c d f g e =
    let p : eqb x 0 ≡ false = ne_eqb x 0 (omega arith) in
    let q : ltb x 4294967296 ≡ true = lt-ltb x 4294967296 c in
    let r : leb (n + padded x) 65536 ≡ true = le-leb (n + padded x) 65536 d in
    let s : ltb h 65536 ≡ true = lt-ltb h 65536 f.small in
    let v : leb (h * 4) x ≡ true = le-leb (h * 4) x f.room in
    let t : leb (u + h) 64 ≡ true = le-leb (u + h) 64 g in
    rw (b, q, p, r, s, v, t, e, append-nil)

-- ---- what the walk meets

module _ (m : Message) (oct : Octets m.bytes) (short : length m.bytes ≤ 65536) (few : m.handles ≤ 64) (row : ℕ) (rows : ℕ → Decoder) (b : D.Deeper) where
  abbrev walk_content : Decoder
  walk_content = unknown_envelope m (D.deeper rows b) row

  content_form : {n u n₁ u₁ : ℕ} {vs rest inl ool : List ℕ} → Wrote n u rest n₁ u₁ vs inl ool → WellFormed 8 n u inl ool n₁ u₁
  content_form {rest = rest} (inside {h = h} {w = w} a c d) =
      let q = envelope_form w h in_line in
      record { sized = q.0; advances = omega arith; used = omega arith; inline_octets = q.1; out_octets = octets_nil; within_bytes = omega arith; within_handles = omega arith; whole = omega arith }
  content_form (outside {x = x} {h = h} {vs = vs} {inl = i} a w c r d g e) =
      let q = envelope_form x h out_of_line in
      let y = object_form x (λ inl ool k. (words_twins m oct x w).well_formed k) r e in
      record {
        sized = q.0;
        advances = y.advances;
        used = omega (arith, y.used);
        inline_octets = q.1;
        out_octets = y.out_octets;
        within_bytes = y.within_bytes;
        within_handles = λ k. y.within_handles g;
        whole = y.whole;
      }

  inside_run : {at n u h w : ℕ} {rest : List ℕ} → low_word m at ≡ w → handle_number m at ≡ h → flags m at ≡ in_line → h * 4 ≤ payload_in_line → u + h ≤ m.handles
      → Decodes walk_content at n u n (u + h) (0 ∷ h ∷ w ∷ rest) rest
  unfolding unknown_envelope D.take_handles
  inside_run {at} {n} {u} {h} {w} p q r c s =
      let y : leb (h * 4) 4 ≡ true = le-leb (h * 4) 4 c in
      let z : leb (u + h) m.handles ≡ true = le-leb (u + h) m.handles s in
      decodes (0 ∷ h ∷ w ∷ []) (unknown_content 0 h ∷ []) (rw (p, q, r, y, z))

  outside_run : {at n u n₁ u₁ x h : ℕ} {vs rest : List ℕ} → low_word m at ≡ x → handle_number m at ≡ h → flags m at ≡ out_of_line → 0 < x → x % 8 ≡ 0 → h * 4 ≤ x → u + h ≤ m.handles
      → leb (n + padded x) (length m.bytes) ≡ true → D.is_zero m (n + x) (padded x - x) ≡ true
      → Decodes (D.elements 8 (λ i. decode_word m 8) 0 (x / 8)) n (n + padded x) (u + h) n₁ u₁ vs rest → Decodes walk_content at n u n₁ u₁ (x ∷ h ∷ vs) rest
  unfolding unknown_envelope D.take_handles D.claim D.sequence
  outside_run {at} {n} {u} {x = x} {h = h} p q r a w g s f z (decodes us t e) =
      let y : leb (h * 4) x ≡ true = le-leb (h * 4) x g in
      let c : ltb 0 x ≡ true = lt-ltb 0 x a in
      let d : leb (u + h) m.handles ≡ true = le-leb (u + h) m.handles s in
      decodes (x ∷ h ∷ us) (claimed unknown_object row n x ∷ unknown_content x h ∷ t) (rw (p, q, r, w, c, y, f, z, d, add-zero, e))

  outside_decodes : {x h n u n₁ u₁ : ℕ} {vs rest inl ool : List ℕ} → 0 < x → x % 8 ≡ 0 → h * 4 ≤ x → AsObject x (E.elements (λ i. encode_word 8) 0 (x / 8) vs (n + padded x) (u + h)) n₁ u₁ rest inl ool
      → {at : ℕ} → (low_word m at ≡ x) × (handle_number m at ≡ h) × (flags m at ≡ out_of_line) → StandsAt m.bytes n ool → u₁ ≤ m.handles
      → Decodes walk_content at n u n₁ u₁ (x ∷ h ∷ vs) rest
  outside_decodes {x} {h} {n} {u} a w g (object {inl = i} {ool = o} e) {at} q k l =
      let t = words_twins m oct x w in
      let f = t.well_formed e in
      let s = object_stands m.bytes x n i o f.sized k in
      outside_run q.0 q.1 q.2 a w g (omega (arith, f.used)) (le-leb (n + padded x) (length m.bytes) s.fits) (zero_standing m.bytes _ _ s.filled)
      (t.decodes_what_was_encoded e s.inline s.out_of_line l)

  content_decodes : {n u n₁ u₁ : ℕ} {vs rest inl ool : List ℕ} → Wrote n u rest n₁ u₁ vs inl ool
      → {at : ℕ} → StandsAt m.bytes at inl → StandsAt m.bytes n ool → u₁ ≤ m.handles → Decodes walk_content at n u n₁ u₁ vs rest
  content_decodes (inside {h = h} {w = w} a c d) {at} s k l =
      let q = envelope_reads m at w h in_line d a.small (omega arith) s in
      inside_run q.0 q.1 q.2 a.room l
  content_decodes (outside {x = x} {h = h} a w c r d g e) {at} s k l = outside_decodes a w d.room e (envelope_reads m at x h out_of_line c d.small (omega arith) s) k l

  -- ---- from what was met to what is written

  inside_joined : {at n u n₁ u₁ : ℕ} {vs : List ℕ} {t : List Event} → Took m (unknown_content 0 (handle_number m at)) n u n₁ u₁ vs t
      → flags m at ≡ in_line → Fits payload_in_line (handle_number m at) → at + 8 ≤ length m.bytes → n ≤ length m.bytes → (rest : List ℕ) → Encodes m write_content at n u n₁ u₁ (0 ∷ handle_number m at ∷ low_word m at ∷ vs) t rest
  unfolding object_list present_handles unknown_handles unknown_out_of_line unknown_lengths Tiles
  inside_joined {at} {n} {u} (took i) f c l k rest = record {
    inl = envelope_bytes (low_word m at) (handle_number m at) in_line;
    ool = [];
    writes = inside_writes (handle_number m at) (low_word m at) n u rest c (omega arith) (word_below m.bytes at 4 oct (omega arith));
    inline = envelope_stands m at in_line oct l f;
    out_of_line = stands_nil m.bytes n k;
    tiles = refl;
    handles = omega arith;
    unknowns = refl;
  }

  inside_encodes : {at n u n₁ u₁ : ℕ} {vs : List ℕ} {t : List Event}
      → After (0 ∷ handle_number m at ∷ low_word m at ∷ []) [] (D.take_handles m at (unknown_content 0 (handle_number m at)) at n u) n₁ u₁ vs t
      → flags m at ≡ in_line → Fits payload_in_line (handle_number m at) → at + 8 ≤ length m.bytes → n ≤ length m.bytes → (rest : List ℕ) → Encodes m write_content at n u n₁ u₁ vs t rest
  inside_encodes {at} {n} {u} (After.after e) f c l k rest = inside_joined (took_inv m at (unknown_content 0 (handle_number m at)) at n u e) f c l k rest

  outside_joined : {at n u n₁ u₁ : ℕ} {vs : List ℕ} {t : List Event} {rest : List ℕ} → 0 < low_word m at → low_word m at % 8 ≡ 0 → flags m at ≡ out_of_line → Fits (low_word m at) (handle_number m at)
      → u + handle_number m at ≤ m.handles → n + padded (low_word m at) ≤ length m.bytes → StandsAt m.bytes (n + low_word m at) (zeros (padded (low_word m at) - low_word m at))
      → at + 8 ≤ length m.bytes
      → (y : Encodes m (E.elements (λ i. encode_word 8) 0 (low_word m at / 8)) n (n + padded (low_word m at)) (u + handle_number m at) n₁ u₁ vs t rest)
      → length y.inl ≡ low_word m at
      → Encodes m write_content at n u n₁ u₁ (low_word m at ∷ handle_number m at ∷ vs) (claimed unknown_object row n (low_word m at) ∷ unknown_content (low_word m at) (handle_number m at) ∷ t) rest
  unfolding object_list present_handles unknown_handles unknown_out_of_line unknown_lengths Tiles
  outside_joined {at} {n} {u} {n₁} {u₁} {vs} {t} {rest} a w f b g c z l y sized =
      let p : eqb (low_word m at) 0 ≡ false = ne_eqb (low_word m at) 0 (omega arith) in
      record {
        inl = envelope_bytes (low_word m at) (handle_number m at) out_of_line;
        ool = (y.inl ++ zeros (padded (low_word m at) - low_word m at)) ++ y.ool;
        writes = outside_writes (low_word m at) (handle_number m at) n u n₁ u₁ (vs ++ rest) rest y.inl y.ool a w (word_below m.bytes at 4 oct (omega arith)) (omega arith)
            b (omega arith) y.writes;
        inline = envelope_stands m at out_of_line oct l f;
        out_of_line = stands_object m.bytes (low_word m at) n y.inl y.ool sized y.inline z y.out_of_line;
        tiles = (refl, y.tiles);
        handles = omega (arith, y.handles);
        unknowns = rw p (ap (λ (r : List ℕ). low_word m at ∷ r) y.unknowns);
      }

  -- What holds of an envelope that is out of line, and of the place of its content.
  record Outside (at n : ℕ) : Type 0 where
    positive : 0 < low_word m at
    multiple : low_word m at % 8 ≡ 0
    form : flags m at ≡ out_of_line
    claims : Fits (low_word m at) (handle_number m at)
    fits : n + padded (low_word m at) ≤ length m.bytes
    filled : D.is_zero m (n + low_word m at) (padded (low_word m at) - low_word m at) ≡ true
    inline : at + 8 ≤ length m.bytes

  outside_taken : {at n u n₂ u₂ n₁ u₁ : ℕ} {vs₁ vs : List ℕ} {t₁ t : List Event} → Outside at n
      → Took m (unknown_content (low_word m at) (handle_number m at)) (n + padded (low_word m at)) u n₂ u₂ vs₁ t₁
      → D.elements 8 (λ i. decode_word m 8) 0 (low_word m at / 8) n n₂ u₂ ≡ went n₁ u₁ vs t → (rest : List ℕ)
      → Encodes m write_content at n u n₁ u₁ (low_word m at ∷ handle_number m at ∷ vs₁ ++ vs) (claimed unknown_object row n (low_word m at) ∷ t₁ ++ t) rest
  outside_taken {at} {n} {u} o (took g) e rest =
      let tw = words_twins m oct (low_word m at) o.multiple in
      let p = padded_above (low_word m at) in
      let y = tw.encodes_what_was_decoded e (omega (arith, o.fits)) o.fits rest in
      outside_joined o.positive o.multiple o.form o.claims g o.fits (standing_zero m.bytes (n + low_word m at) _ o.filled (omega (arith, o.fits))) o.inline y (tw.well_formed y.writes).sized

  outside_then : {at n u n₁ u₁ : ℕ} {vs : List ℕ} {t : List Event} → Outside at n
      → Then (D.take_handles m at (unknown_content (low_word m at) (handle_number m at)) n (n + padded (low_word m at)) u) (λ n₂ u₂. D.elements 8 (λ i. decode_word m 8) 0 (low_word m at / 8) (n + 0) n₂ u₂) n₁ u₁ vs t
      → (rest : List ℕ) → Encodes m write_content at n u n₁ u₁ (low_word m at ∷ handle_number m at ∷ vs) (claimed unknown_object row n (low_word m at) ∷ t) rest
  outside_then {at} {n} {u} o (Then.both e₁ e₂) rest =
      outside_taken o (took_inv m at (unknown_content (low_word m at) (handle_number m at)) n (n + padded (low_word m at)) u e₁) (rw add-zero at e₂) rest

  outside_claimed : {at n u n₁ u₁ : ℕ} {vs : List ℕ} {t : List Event} → Outside at n
      → After [] (claimed unknown_object row n (low_word m at) ∷ [])
      (D.sequence 0 (D.take_handles m at (unknown_content (low_word m at) (handle_number m at))) (D.elements 8 (λ i. decode_word m 8) 0 (low_word m at / 8)) n (n + padded (low_word m at)) u) n₁ u₁ vs t
      → (rest : List ℕ) → Encodes m write_content at n u n₁ u₁ (low_word m at ∷ handle_number m at ∷ vs) t rest
  unfolding D.sequence
  outside_claimed o (After.after e) rest = outside_then o (then_inv _ _ e) rest

  abbrev outside_walk : (at : ℕ) → Decoder
  outside_walk at =
      D.claim m unknown_object row (low_word m at)
      (D.sequence 0 (D.take_handles m at (unknown_content (low_word m at) (handle_number m at))) (D.elements 8 (λ i. decode_word m 8) 0 (low_word m at / 8)))

  outside_emitted : {at n u n₁ u₁ : ℕ} {vs : List ℕ} {t : List Event} → After (low_word m at ∷ handle_number m at ∷ []) [] (outside_walk at at n u) n₁ u₁ vs t
      → eqb (flags m at) out_of_line && whole_words m (low_word m at) ≡ true → Fits (low_word m at) (handle_number m at) → at + 8 ≤ length m.bytes → (rest : List ℕ) → Encodes m write_content at n u n₁ u₁ vs t rest
  unfolding D.claim
  outside_emitted {at} {n} {u} (After.after e) f b l rest =
      let i = both (eqb (flags m at) out_of_line) (whole_words m (low_word m at)) f in
      let j = both (eqb (low_word m at % 8) 0) (ltb 0 (low_word m at)) i.1 in
      let c = require_inv (leb (n + padded (low_word m at)) (length m.bytes)) (fault object_does_not_fit (Byte n)) _ e in
      let z = require_inv (D.is_zero m (n + low_word m at) (padded (low_word m at) - low_word m at)) _ _ c.1 in
      outside_claimed (record {
        positive = ltb-true 0 (low_word m at) j.1;
        multiple = eqb-true (low_word m at % 8) 0 j.0;
        form = eqb-true (flags m at) out_of_line i.0;
        claims = b;
        fits = leb-true (n + padded (low_word m at)) (length m.bytes) c.0;
        filled = z.0;
        inline = l;
      }) (after_inv _ _ _ z.1) rest

  -- What passed 35.
  abbrev require_claims : (payload at : ℕ) → Decoded → Decoded
  require_claims payload at result = D.require (leb (handle_number m at * 4) payload) (fault handles_impossible (Byte at)) result

  claims_inv : (payload at : ℕ) (r : Decoded) → at + 8 ≤ length m.bytes → {n u : ℕ} {vs : List ℕ} {t : List Event} → require_claims payload at r ≡ went n u vs t
      → Fits payload (handle_number m at) × (r ≡ went n u vs t)
  claims_inv payload at r l e =
      let i = require_inv (leb (handle_number m at * 4) payload) (fault handles_impossible (Byte at)) r e in
      (record { small = word_below m.bytes (at + 4) 2 oct (omega arith); room = leb-true _ _ i.0 }, i.1)

  -- The two forms, with the test that told them apart.
  content_forms : (at n u : ℕ) {n₁ u₁ : ℕ} {vs : List ℕ} {t : List Event} (i : Bool) → eqb (flags m at) in_line ≡ i
      → (if i then require_claims payload_in_line at (D.after (0 ∷ handle_number m at ∷ low_word m at ∷ []) [] (D.take_handles m at (unknown_content 0 (handle_number m at)) at n u))
      else D.require (eqb (flags m at) out_of_line && whole_words m (low_word m at)) (fault envelope_form_wrong (Byte at))
      (require_claims (low_word m at) at (D.after (low_word m at ∷ handle_number m at ∷ []) [] (outside_walk at at n u))))
      ≡ went n₁ u₁ vs t
      → at + 8 ≤ length m.bytes → n ≤ length m.bytes → (rest : List ℕ) → Encodes m write_content at n u n₁ u₁ vs t rest
  content_forms at n u true q e l k rest =
      let c = claims_inv payload_in_line at _ l e in
      inside_encodes (after_inv _ [] (D.take_handles m at (unknown_content 0 (handle_number m at)) at n u) c.1) (eqb-true (flags m at) in_line q) c.0 l k rest
  content_forms at n u false q e l k rest =
      let f = require_inv (eqb (flags m at) out_of_line && whole_words m (low_word m at)) (fault envelope_form_wrong (Byte at)) _ e in
      let c = claims_inv (low_word m at) at _ l f.1 in
      outside_emitted (after_inv _ [] (outside_walk at at n u) c.1) f.0 c.0 l rest

  pub twins_content : Twins m 8 walk_content write_content
  unfolding unknown_envelope
  twins_content = record {
    well_formed = λ {vs} e. content_form (content_inv vs e);
    decodes_what_was_encoded = λ {vs} e h k l. content_decodes (content_inv vs e) h k l;
    encodes_what_was_decoded = λ {at} {n} {u} e h k rest. content_forms at n u (eqb (flags m at) in_line) refl e h k rest;
  }

  form_not_zero : (at n u : ℕ) {n₁ u₁ : ℕ} {vs : List ℕ} {t : List Event} (r s : Decoded) (i : Bool) → eqb (flags m at) in_line ≡ i
      → (if i then r else D.require (eqb (flags m at) out_of_line && whole_words m (low_word m at)) (fault envelope_form_wrong (Byte at)) s) ≡ went n₁ u₁ vs t
      → at + 8 ≤ length m.bytes → word m.bytes at 8 ≡ 0 → ⊥
  form_not_zero at n u r s true q e l z = omega (arith, word_add m.bytes at 6 2 (omega arith), eqb-true (flags m at) in_line q)
  form_not_zero at n u r s false q e l z =
      let f = require_inv (eqb (flags m at) out_of_line && whole_words m (low_word m at)) (fault envelope_form_wrong (Byte at)) s e in
      let i = both (eqb (flags m at) out_of_line) (whole_words m (low_word m at)) f.0 in
      let j = both (eqb (low_word m at % 8) 0) (ltb 0 (low_word m at)) i.1 in
      omega (arith, word_add m.bytes at 4 4 (omega arith), ltb-true 0 (low_word m at) j.1)

  pub never_zero_content : NeverZero m 8 walk_content
  unfolding unknown_envelope
  never_zero_content = record {
    nonzero = λ {at} {n} {u} e h k z. form_not_zero at n u _ _ (eqb (flags m at) in_line) refl e h (word_zeros m.bytes at 8 z);
  }
