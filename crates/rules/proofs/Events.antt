-- What a part of the walk meets is so in the message: the fill of every object that is claimed is zero, the word of every
-- present handle is all ones, and unknown content has room for the handles that it claims. It holds whether the part goes on or is stopped: an event comes after the test that it is about.
use Rattle.std.specs.Prelude.{if◌then◌else◌}
use mathlib.Core.Path.{◌≡◌, refl}
use mathlib.Core.Bool.{Bool, true, false, not}
use mathlib.Core.List.{List, [], ◌∷◌, ◌++◌}
use Prim.Native.Nat.{ℕ, zero, suc, ◌+◌, ◌-◌, ◌*◌, ◌≤◌}
use native.Mathlib.Omega.{arith}
use lib.Dec.{leb, eqb}
use borrow.Author.Tests.{leb-true}
use lib.ListN.{length}
use Rattle.rules.specs.declared.Place.TheVariants.{Byte}
use Rattle.rules.specs.declared.Fault.{Fault}
use Rattle.rules.specs.Refusals.{fault, object_does_not_fit, fill_not_zero, absent_not_zero, too_few_handles, envelope_form_wrong, byte_number_wrong, handle_number_wrong, present_envelope_zero, last_envelope_zero}
use Rattle.rules.specs.Bytes.{part, word, zeros, leading_zeros, padded, ones32}
use Rattle.rules.specs.Trace.{Event, claimed, present_handle, unknown_content, object_list, handles_of, FillsAreZero, PresentHandlesAreOnes}
use Rattle.rules.specs.Decode as D
use Rattle.rules.specs.Decode.{Message, Decoded, went, stopped, trace_of, Decoder, ReadRecord, got, wrong}
use Rattle.rules.specs.Records.{Judged, any_pattern, read_number}
use Rattle.rules.specs.Envelope.{unknown_payload, UnknownClaimsFit, decode_word, low_word, handle_number, flags, byte_numbered, flagged}
use Rattle.rules.proofs.Bytes.{zeros_length, padded_above}
use Rattle.rules.proofs.Twins.{standing_zero}

-- ---- traces

abbrev pub Met : (bytes : List ℕ) (trace : List Event) → Type 0
Met bytes trace = FillsAreZero bytes (object_list trace) × PresentHandlesAreOnes bytes trace × UnknownClaimsFit trace

met_nil : (bytes : List ℕ) → Met bytes []
unfolding object_list FillsAreZero PresentHandlesAreOnes UnknownClaimsFit
met_nil bytes = (tt, tt, tt)

met_append : (bytes : List ℕ) (s t : List Event) → Met bytes s → Met bytes t → Met bytes (s ++ t)
unfolding object_list FillsAreZero PresentHandlesAreOnes UnknownClaimsFit
met_append bytes [] t x y = y
met_append bytes (claimed kind row offset length ∷ s) t x y = let r = met_append bytes s t (x.0.1, x.1, x.2) y in ((x.0.0, r.0), r.1, r.2)
met_append bytes (present_handle at ∷ s) t x y = let r = met_append bytes s t (x.0, x.1.1, x.2) y in (r.0, (x.1.0, r.1), r.2)
met_append bytes (unknown_content byte-number handles ∷ s) t x y = let r = met_append bytes s t (x.0, x.1, x.2.1) y in (r.0, r.1, (x.2.0, r.2))

met_claim : (bytes : List ℕ) (kind row offset size : ℕ) → part bytes (offset + size) (padded size - size) ≡ zeros (padded size - size) → Met bytes (claimed kind row offset size ∷ [])
unfolding object_list FillsAreZero PresentHandlesAreOnes UnknownClaimsFit
met_claim bytes kind row offset size e = ((e, tt), tt, tt)

pub met_handle : (bytes : List ℕ) (at : ℕ) → word bytes at 4 ≡ ones32 → Met bytes (present_handle at ∷ [])
unfolding object_list FillsAreZero PresentHandlesAreOnes UnknownClaimsFit
met_handle bytes at e = (tt, (e, tt), tt)

pub met_unknown : (bytes : List ℕ) (byte-number handles : ℕ) → handles * 4 ≤ unknown_payload byte-number → Met bytes (unknown_content byte-number handles ∷ [])
unfolding object_list FillsAreZero PresentHandlesAreOnes UnknownClaimsFit
met_unknown bytes byte-number handles h = (tt, tt, (h, tt))

module _ (m : Message) where
  -- ---- results

  abbrev pub True : Decoded → Type 0
  True r = Met m.bytes (trace_of r)

  true_after : (vs : List ℕ) (t : List Event) (r : Decoded) → Met m.bytes t → True r → True (D.after vs t r)
  true_after vs t (went next used values trace) x y = met_append m.bytes t trace x y
  true_after vs t (stopped f values trace) x y = met_append m.bytes t trace x y

  true_given : (vs : List ℕ) (r : Decoded) → True r → True (D.after vs [] r)
  true_given vs r x = true_after vs [] r (met_nil m.bytes) x

  true_then : (r : Decoded) (k : ℕ → ℕ → Decoded) → True r → ((next used : ℕ) → True (k next used)) → True (D.and_then r k)
  true_then (went next used values trace) k x y = true_after values trace (k next used) x (y next used)
  true_then (stopped f values trace) k x y = x

  pub true_require : (b : Bool) (f : Fault) (r : Decoded) → (b ≡ true → True r) → True (D.require b f r)
  true_require true f r x = x refl
  true_require false f r x = met_nil m.bytes

  true_either : (b : Bool) (f : Fault) (next used : ℕ) (values : List ℕ) (trace : List Event) → Met m.bytes trace
      → True (if b then went next used values trace else stopped f values trace)
  true_either true f next used values trace x = x
  true_either false f next used values trace x = x

  true_require_after : (holds : ℕ → ℕ → List ℕ → Bool) (f : Fault) (r : Decoded) → True r → True (D.require_after holds f r)
  true_require_after holds f (went next used values trace) x = true_either (holds next used values) f next used values trace x
  true_require_after holds f (stopped g values trace) x = x

  pub true_if : (b : Bool) (r s : Decoded) → True r → True s → True (if b then r else s)
  true_if true r s x y = x
  true_if false r s x y = y

  -- ---- parts

  pub record Truthful (f : Decoder) : Type 0 where
    pub met : (at next used : ℕ) → True (f at next used)

  pub nothing_true : Truthful D.nothing
  nothing_true = record { met = λ at next used. met_nil m.bytes }

  pub refuse_true : (f : Fault) → Truthful (D.refuse f)
  refuse_true f = record { met = λ at next used. met_nil m.bytes }

  pub sequence_true : (size : ℕ) {f g : Decoder} → Truthful f → Truthful g → Truthful (D.sequence size f g)
  unfolding D.sequence
  sequence_true size {f} {g} x y = record {
    met = λ at next used. true_then (f at next used) (λ n u. g (at + size) n u) (x.met at next used) (λ n u. y.met (at + size) n u);
  }

  pub elements_true : (size : ℕ) (parts : ℕ → Decoder) → ((i : ℕ) → Truthful (parts i)) → (index count : ℕ) → Truthful (D.elements size parts index count)
  unfolding D.elements
  elements_true size parts x index zero = nothing_true
  elements_true size parts x index (suc count) = sequence_true size (x index) (elements_true size parts x (suc index) count)

  pub here_true : (f : ℕ → Decoder) → ((at : ℕ) → Truthful (f at)) → Truthful (D.here f)
  here_true f x = record { met = λ at next used. (x at).met at next used }

  pub emit_true : (vs : List ℕ) {f : Decoder} → Truthful f → Truthful (D.emit vs f)
  emit_true vs {f} x = record { met = λ at next used. true_given vs (f at next used) (x.met at next used) }

  record_goes_true : (r : ReadRecord) (k : ℕ → Decoded) → ((v : ℕ) → r ≡ got v → True (k v)) → True (D.record_goes r k)
  record_goes_true (got v) k x = true_given (v ∷ []) (k v) (x v refl)
  record_goes_true (wrong f) k x = met_nil m.bytes

  -- What a record leads to may rest on what was read.
  pub record_true : (size : ℕ) (read : ℕ → ReadRecord) (continue : ℕ → ℕ → Decoder) → ((at v : ℕ) → read at ≡ got v → Truthful (continue at v)) → Truthful (D.record_then size read continue)
  unfolding D.record_then
  record_true size read continue x = record {
    met = λ at next used. record_goes_true (read at) (λ v. continue at v (at + size) next used) (λ v e. (x at v e).met (at + size) next used);
  }

  pub number_true : (width : ℕ) (judge : ℕ → Judged) → Truthful (D.record_then width (read_number m width judge) (λ at v. D.nothing))
  number_true width judge = record_true width (read_number m width judge) (λ at v. D.nothing) (λ at v e. nothing_true)

  pub word_true : (width : ℕ) → Truthful (decode_word m width)
  unfolding decode_word
  word_true width = number_true width any_pattern

  pub checked_true : (holds : List ℕ → Bool) (f : (at : ℕ) (values : List ℕ) → Fault) {g : Decoder} → Truthful g → Truthful (D.checked holds f g)
  unfolding D.checked
  checked_true holds f {g} x = record { met = λ at next used. true_require_after (λ n u values. holds values) _ (g at next used) (x.met at next used) }

  pub fill_true : (count : ℕ) → Truthful (D.fill m count)
  unfolding D.fill
  fill_true count = record {
    met = λ at next used.
        true_require (D.is_zero m at count) (fault fill_not_zero (Byte (at + leading_zeros (part m.bytes at count)))) (went next used [] []) (λ e. met_nil m.bytes);
  }

  -- An object is claimed after the test of its fill.
  zero_fill : (next size : ℕ) → leb (next + padded size) (length m.bytes) ≡ true → D.is_zero m (next + size) (padded size - size) ≡ true
      → part m.bytes (next + size) (padded size - size) ≡ zeros (padded size - size)
  zero_fill next size fits e =
      let l = padded_above size in
      rw zeros_length at (standing_zero m.bytes (next + size) (padded size - size) e (omega (arith, leb-true (next + padded size) (length m.bytes) fits))).same

  pub claim_true : (kind row size : ℕ) {fields : Decoder} → Truthful fields → Truthful (D.claim m kind row size fields)
  unfolding D.claim
  claim_true kind row size {fields} x = record {
    met = λ at next used.
        let walked = D.after [] (claimed kind row next size ∷ []) (fields next (next + padded size) used) in
        true_require (leb (next + padded size) (length m.bytes)) (fault object_does_not_fit (Byte next)) (D.require_zero m (next + size) (padded size - size) walked) (λ fits.
        true_require (D.is_zero m (next + size) (padded size - size)) _ walked (λ e.
        true_after [] (claimed kind row next size ∷ []) (fields next (next + padded size) used)
        (met_claim m.bytes kind row next size (zero_fill next size fits e)) (x.met next (next + padded size) used)));
  }

  pub take_true : (word_at : ℕ) (event : Event) → Met m.bytes (event ∷ []) → Truthful (D.take_handles m word_at event)
  unfolding D.take_handles
  take_true word_at event x = record {
    met = λ at next used. true_require (leb (used + handles_of event) m.handles) (fault too_few_handles (Byte word_at)) (went next (used + handles_of event) [] (event ∷ [])) (λ e. x);
  }

  -- ---- envelopes

  pub optional_true : (size : ℕ) (last : Bool) {content : Decoder} → Truthful content → Truthful (D.optional_envelope m size last content)
  unfolding D.optional_envelope
  optional_true size last {content} x = record {
    met = λ at next used.
        true_if (D.is_zero m at size) (D.require_last m (not last) at (went next used (0 ∷ []) [])) (D.after (1 ∷ []) [] (content at next used))
        (true_require (not last) (fault last_envelope_zero (Byte at)) (went next used (0 ∷ []) []) (λ e. met_nil m.bytes))
        (true_given (1 ∷ []) (content at next used) (x.met at next used));
  }

  pub last_true : (size count : ℕ) {envelopes : Decoder} → Truthful envelopes → Truthful (D.last_present m size count envelopes)
  unfolding D.last_present
  last_true size zero x = x
  last_true size (suc count) {envelopes} x = record {
    met = λ at next used.
        true_require (not (D.is_zero m (at + count * size) size)) (fault last_envelope_zero (Byte (at + count * size))) (envelopes at next used) (λ e. x.met at next used);
  }

  pub zero_true : (size union-at : ℕ) → Truthful (D.zero_envelope m size union-at)
  unfolding D.zero_envelope
  zero_true size union-at = record {
    met = λ at next used. true_require (D.is_zero m at size) (fault absent_not_zero (Byte union-at)) (went next used [] []) (λ e. met_nil m.bytes);
  }

  pub present_true : (size : ℕ) {content : Decoder} → Truthful content → Truthful (D.present_envelope m size content)
  unfolding D.present_envelope
  present_true size {content} x = record {
    met = λ at next used. true_require (not (D.is_zero m at size)) (fault present_envelope_zero (Byte at)) (content at next used) (λ e. x.met at next used);
  }

  pub numbered_true : {payload : Decoder} → Truthful payload → Truthful (byte_numbered m payload)
  unfolding byte_numbered
  numbered_true {payload} x = record {
    met = λ at next used. true_require_after (λ n u values. eqb (low_word m at) (n - next)) (fault byte_number_wrong (Byte at)) (payload at next used) (x.met at next used);
  }

  pub flagged_true : (form : ℕ) {payload : Decoder} → Truthful payload → Truthful (flagged m form payload)
  unfolding flagged
  flagged_true form {payload} x = record {
    met = λ at next used.
        let numbered = D.require_after (λ n u values. eqb (handle_number m at) (u - used)) (fault handle_number_wrong (Byte at)) (payload at next used) in
        true_require (eqb (flags m at) form) (fault envelope_form_wrong (Byte at)) numbered (λ e.
        true_require_after (λ n u values. eqb (handle_number m at) (u - used)) (fault handle_number_wrong (Byte at)) (payload at next used) (x.met at next used));
  }
