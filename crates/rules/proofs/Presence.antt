-- Envelopes that may be absent, must be zero, or may not be: content that goes on is never eight zero bytes.
use Rattle.std.specs.Prelude.{if◌then◌else◌}
use mathlib.Core.Path.{◌≡◌, refl}
use mathlib.Core.Bool.{Bool, true, false, not}
use mathlib.Core.List.{List, [], ◌∷◌}
use Prim.Native.Nat.{ℕ, zero, suc, ◌+◌, ◌-◌, ◌*◌, ◌≤◌, ◌<◌}
use native.Mathlib.Omega.{arith}
use lib.Dec.{eqb}
use borrow.Author.Tests.{eqb-true}
use lib.ListN.{length}
use Rattle.rules.specs.declared.Place.TheVariants.{Byte}
use Rattle.rules.specs.Refusals.{fault, absent_not_zero, not_a_value, envelope_form_wrong, byte_number_wrong, handle_number_wrong, present_envelope_zero, last_envelope_zero}
use Rattle.rules.specs.Bytes.{zeros}
use Rattle.rules.specs.Trace.{Event, object_list, present_handles, unknown_handles, unknown_out_of_line, unknown_lengths, Tiles}
use Rattle.rules.specs.Decode as D
use Rattle.rules.specs.Decode.{Message, Decoded, went, Decoder}
use Rattle.rules.specs.Encode as E
use Rattle.rules.specs.Encode.{wrote, Encoder}
use Rattle.rules.specs.Envelope.{in_line, low_word, handle_number, flags, byte_numbered, flagged}
use Rattle.rules.proofs.Bytes.{StandsAt, stands_nil, zeros_length, octets_zeros, word_add, word_zeros}
use Rattle.rules.proofs.Results.{cannot_not_wrote, require_inv, write_require_inv, require_after_inv, After, after_inv, Then, then_inv}
use Rattle.rules.proofs.Twins.{WellFormed, Decodes, decodes, Encodes, Twins, plain_form, zero_standing, standing_zero, twins_zeros}

-- A decoder that is stopped at an envelope of zeros.
pub record NeverZero (m : Message) (size : ℕ) (f : Decoder) : Type 0 where
  pub nonzero : {at n u n₁ u₁ : ℕ} {vs : List ℕ} {t : List Event} → f at n u ≡ went n₁ u₁ vs t → at + size ≤ length m.bytes → n ≤ length m.bytes → StandsAt m.bytes at (zeros size) → ⊥

not_zero : (m : Message) (size at : ℕ) → at + size ≤ length m.bytes → (StandsAt m.bytes at (zeros size) → ⊥) → D.is_zero m at size ≡ false
not_zero m size at h f = go (D.is_zero m at size) refl
  where
    go : (b : Bool) → D.is_zero m at size ≡ b → b ≡ false
    go false q = refl
    go true q = absurd (f (standing_zero m.bytes at size q h))

-- ---- an envelope that may be absent

data WriteOptional (size : ℕ) (last : Bool) (g : Encoder) (n u : ℕ) (rest : List ℕ) : ℕ → ℕ → List ℕ → List ℕ → List ℕ → Type 0 where
  absent : not last ≡ true → WriteOptional size last g n u rest n u (0 ∷ rest) (zeros size) []
  present : {n₁ u₁ : ℕ} {vs inl ool : List ℕ} → g vs n u ≡ wrote inl ool n₁ u₁ rest → WriteOptional size last g n u rest n₁ u₁ (1 ∷ vs) inl ool

write_optional_inv : (size : ℕ) (last : Bool) (g : Encoder) (vs : List ℕ) {n u n₁ u₁ : ℕ} {inl ool rest : List ℕ}
    → E.optional_envelope size last g vs n u ≡ wrote inl ool n₁ u₁ rest → WriteOptional size last g n u rest n₁ u₁ vs inl ool
unfolding E.optional_envelope
write_optional_inv size last g [] e = absurd (cannot_not_wrote e)
write_optional_inv size last g (zero ∷ vs) {n} {u} {n₁} {u₁} {inl} {ool} {rest} e =
    let i = write_require_inv (not last) not_a_value (E.last_taken vs) (wrote (zeros size) [] n u vs) e in
    let a : inl ≡ zeros size = cc in
    let b : ool ≡ [] = cc in
    let c : n₁ ≡ n = cc in
    let d : u₁ ≡ u = cc in
    let f : vs ≡ rest = cc in
    rw (a, b, c, d, f) (absent i.0)
write_optional_inv size last g (suc zero ∷ vs) e = present e
write_optional_inv size last g (suc (suc v) ∷ vs) e = absurd (cannot_not_wrote e)

data Optional (m : Message) (size : ℕ) (last : Bool) (f : Decoder) (at n u : ℕ) : ℕ → ℕ → List ℕ → List Event → Type 0 where
  absent : D.is_zero m at size ≡ true → not last ≡ true → Optional m size last f at n u n u (0 ∷ []) []
  present : {n₁ u₁ : ℕ} {vs : List ℕ} {t : List Event} → D.is_zero m at size ≡ false → f at n u ≡ went n₁ u₁ vs t → Optional m size last f at n u n₁ u₁ (1 ∷ vs) t

optional_present : (m : Message) (size : ℕ) (last : Bool) (f : Decoder) (at n u : ℕ) → D.is_zero m at size ≡ false → {n₁ u₁ : ℕ} {vs : List ℕ} {t : List Event}
    → After (1 ∷ []) [] (f at n u) n₁ u₁ vs t → Optional m size last f at n u n₁ u₁ vs t
optional_present m size last f at n u q (After.after e) = present q e

optional_go : (m : Message) (size : ℕ) (last : Bool) (f : Decoder) (at n u : ℕ) (b : Bool) → D.is_zero m at size ≡ b → {n₁ u₁ : ℕ} {vs : List ℕ} {t : List Event}
    → (if b then D.require_last m (not last) at (went n u (0 ∷ []) []) else D.after (1 ∷ []) [] (f at n u)) ≡ went n₁ u₁ vs t → Optional m size last f at n u n₁ u₁ vs t
optional_go m size last f at n u true q {n₁} {u₁} {vs} {t} e =
    let i = require_inv (not last) (fault last_envelope_zero (Byte at)) (went n u (0 ∷ []) []) e in
    let a : n₁ ≡ n = cc in
    let b : u₁ ≡ u = cc in
    let c : vs ≡ 0 ∷ [] = cc in
    let d : t ≡ [] = cc in
    rw (a, b, c, d) (absent q i.0)
optional_go m size last f at n u false q e = optional_present m size last f at n u q (after_inv (1 ∷ []) [] (f at n u) e)

optional_inv : (m : Message) (size : ℕ) (last : Bool) (f : Decoder) (at n u : ℕ) {n₁ u₁ : ℕ} {vs : List ℕ} {t : List Event}
    → D.optional_envelope m size last f at n u ≡ went n₁ u₁ vs t → Optional m size last f at n u n₁ u₁ vs t
unfolding D.optional_envelope
optional_inv m size last f at n u e = optional_go m size last f at n u (D.is_zero m at size) refl e

module _ (m : Message) (size : ℕ) (last : Bool) {f : Decoder} {g : Encoder} (a : Twins m size f g) (never : NeverZero m size f) where
  optional_form : {n u n₁ u₁ : ℕ} {vs rest inl ool : List ℕ} → WriteOptional size last g n u rest n₁ u₁ vs inl ool → WellFormed size n u inl ool n₁ u₁
  optional_form {rest = rest} (WriteOptional.absent q) = plain_form (zeros size) (octets_zeros size) (zeros_length size) {vs = rest} {rest = rest} refl
  optional_form (WriteOptional.present e) = a.well_formed e

  present_run : {at n u n₁ u₁ : ℕ} {vs rest : List ℕ} → at + size ≤ length m.bytes → n ≤ length m.bytes → Decodes f at n u n₁ u₁ vs rest
      → Decodes (D.optional_envelope m size last f) at n u n₁ u₁ (1 ∷ vs) rest
  unfolding D.optional_envelope
  present_run {at} h k (decodes us t e) =
      let z : D.is_zero m at size ≡ false = not_zero m size at h (never.nonzero e h k) in
      decodes (1 ∷ us) t (rw (z, e))

  absent_run : {at n u : ℕ} {rest : List ℕ} → not last ≡ true → StandsAt m.bytes at (zeros size) → Decodes (D.optional_envelope m size last f) at n u n u (0 ∷ rest) rest
  unfolding D.optional_envelope
  absent_run {at} q h =
      let z : D.is_zero m at size ≡ true = zero_standing m.bytes at size h in
      decodes (0 ∷ []) [] (rw (z, q))

  optional_decodes : {n u n₁ u₁ : ℕ} {vs rest inl ool : List ℕ} → WriteOptional size last g n u rest n₁ u₁ vs inl ool
      → {at : ℕ} → StandsAt m.bytes at inl → StandsAt m.bytes n ool → u₁ ≤ m.handles → Decodes (D.optional_envelope m size last f) at n u n₁ u₁ vs rest
  optional_decodes (WriteOptional.absent q) h k l = absent_run q h
  optional_decodes (WriteOptional.present e) h k l =
      let x = a.well_formed e in
      present_run (omega (arith, h.fits)) (omega (arith, k.fits)) (a.decodes_what_was_encoded e h k l)

  present_joined : {at n u n₁ u₁ : ℕ} {vs : List ℕ} {t : List Event} {rest : List ℕ} → Encodes m g at n u n₁ u₁ vs t rest
      → Encodes m (E.optional_envelope size last g) at n u n₁ u₁ (1 ∷ vs) t rest
  unfolding E.optional_envelope
  present_joined y = record { inl = y.inl; ool = y.ool; writes = y.writes; inline = y.inline; out_of_line = y.out_of_line; tiles = y.tiles; handles = y.handles; unknowns = y.unknowns }

  absent_joined : {at n u : ℕ} {rest : List ℕ} → not last ≡ true → StandsAt m.bytes at (zeros size) → n ≤ length m.bytes
      → Encodes m (E.optional_envelope size last g) at n u n u (0 ∷ []) [] rest
  unfolding E.optional_envelope object_list present_handles unknown_handles unknown_out_of_line unknown_lengths Tiles
  absent_joined {n = n} q h k =
      record { inl = zeros size; ool = []; writes = rw q; inline = h; out_of_line = stands_nil m.bytes n k; tiles = refl; handles = omega arith; unknowns = refl }

  optional_encodes : {at n u n₁ u₁ : ℕ} {vs : List ℕ} {t : List Event} → Optional m size last f at n u n₁ u₁ vs t → at + size ≤ length m.bytes → n ≤ length m.bytes
      → (rest : List ℕ) → Encodes m (E.optional_envelope size last g) at n u n₁ u₁ vs t rest
  optional_encodes {at} (Optional.absent w q) h k rest = absent_joined q (standing_zero m.bytes at size w h) k
  optional_encodes (Optional.present w e) h k rest = present_joined (a.encodes_what_was_decoded e h k rest)

  pub twins_optional : Twins m size (D.optional_envelope m size last f) (E.optional_envelope size last g)
  twins_optional = record {
    well_formed = λ {vs} e. optional_form (write_optional_inv size last g vs e);
    decodes_what_was_encoded = λ {vs} e h k l. optional_decodes (write_optional_inv size last g vs e) h k l;
    encodes_what_was_decoded = λ {at} {n} {u} e h k rest. optional_encodes (optional_inv m size last f at n u e) h k rest;
  }

last_optional : (m : Message) (size : ℕ) (f : Decoder) (at n u : ℕ) {n₁ u₁ : ℕ} {vs : List ℕ} {t : List Event} → Optional m size true f at n u n₁ u₁ vs t → D.is_zero m at size ≡ false
last_optional m size f at n u (Optional.absent w q) = let z : ◌≡◌ {A = ℕ} 0 1 = cc in absurd (omega arith)
last_optional m size f at n u (Optional.present q e) = q

pub last_not_zero : (m : Message) (size : ℕ) (f : Decoder) (at n u : ℕ) {n₁ u₁ : ℕ} {vs : List ℕ} {t : List Event}
    → D.optional_envelope m size true f at n u ≡ went n₁ u₁ vs t → D.is_zero m at size ≡ false
last_not_zero m size f at n u e = last_optional m size f at n u (optional_inv m size true f at n u e)

-- ---- a table's last envelope

-- The last of the elements went on too.
pub record LastRuns (f : Decoder) (at : ℕ) : Type 0 where
  pub n : ℕ
  pub u : ℕ
  pub n₁ : ℕ
  pub u₁ : ℕ
  pub vs : List ℕ
  pub t : List Event
  pub runs : f at n u ≡ went n₁ u₁ vs t

pub last_runs : (s : ℕ) (parts : ℕ → Decoder) (c i at n u : ℕ) {n₁ u₁ : ℕ} {vs : List ℕ} {t : List Event} → D.elements s parts i (suc c) at n u ≡ went n₁ u₁ vs t
    → LastRuns (parts (i + c)) (at + c * s)
unfolding D.elements D.sequence
last_runs s parts zero i at n u e = go (then_inv (parts i at n u) _ e)
  where
    go : {k : ℕ → ℕ → Decoded} {n₁ u₁ : ℕ} {vs : List ℕ} {t : List Event} → Then (parts i at n u) k n₁ u₁ vs t → LastRuns (parts (i + 0)) (at + 0 * s)
    go (Then.both e₁ e₂) =
        let a : i + 0 ≡ i = omega arith in
        let b : at + 0 * s ≡ at = omega arith in
        rw (a, b) (record { n = n; u = u; n₁ = _; u₁ = _; vs = _; t = _; runs = e₁ })
last_runs s parts (suc c) i at n u e =
    go (then_inv (parts i at n u) (λ n₁ u₁. D.elements s parts (suc i) (suc c) (at + s) n₁ u₁) e) (λ n₂ u₂ n₃ u₃ vs₃ t₃ e₃. last_runs s parts c (suc i) (at + s) n₂ u₂ e₃)
  where
    go : {n₁ u₁ : ℕ} {vs : List ℕ} {t : List Event} → Then (parts i at n u) (λ n₁ u₁. D.elements s parts (suc i) (suc c) (at + s) n₁ u₁) n₁ u₁ vs t
        → ((n₂ u₂ n₃ u₃ : ℕ) (vs₃ : List ℕ) (t₃ : List Event) → D.elements s parts (suc i) (suc c) (at + s) n₂ u₂ ≡ went n₃ u₃ vs₃ t₃ → LastRuns (parts (suc i + c)) (at + s + c * s))
        → LastRuns (parts (i + suc c)) (at + suc c * s)
    go (Then.both {n₁ = n₁} {u₁ = u₁} e₁ e₂) ih =
        let a : i + suc c ≡ suc i + c = omega arith in
        let b : at + suc c * s ≡ at + s + c * s = omega arith in
        rw (a, b) (ih n₁ u₁ _ _ _ _ e₂)

module _ (m : Message) (size c : ℕ) {s : ℕ} {f : Decoder} {g : Encoder} (a : Twins m s f g)
    (last : (at n u n₁ u₁ : ℕ) (vs : List ℕ) (t : List Event) → f at n u ≡ went n₁ u₁ vs t → D.is_zero m (at + c * size) size ≡ false) where
  last_run : {at n u n₁ u₁ : ℕ} {vs rest : List ℕ} → Decodes f at n u n₁ u₁ vs rest → Decodes (D.last_present m size (suc c) f) at n u n₁ u₁ vs rest
  unfolding D.last_present
  last_run {at} {n} {u} {n₁} {u₁} (decodes us t e) = let y : D.is_zero m (at + c * size) size ≡ false = last at n u n₁ u₁ us t e in decodes us t (rw (y, e))

  pub twins_last : Twins m s (D.last_present m size (suc c) f) g
  unfolding D.last_present
  twins_last = record {
    well_formed = λ e. a.well_formed e;
    decodes_what_was_encoded = λ e h k l. last_run (a.decodes_what_was_encoded e h k l);
    encodes_what_was_decoded = λ {at} {n} {u} e h k rest.
        a.encodes_what_was_decoded (require_inv (not (D.is_zero m (at + c * size) size)) (fault last_envelope_zero (Byte (at + c * size))) (f at n u) e).1 h k rest;
  }

-- ---- a union's envelope

pub twins_zero_envelope : (m : Message) (size union-at : ℕ) → Twins m size (D.zero_envelope m size union-at) (E.fill size)
unfolding D.zero_envelope
twins_zero_envelope m size union-at = twins_zeros m size (D.zero_envelope m size union-at) (λ at. fault absent_not_zero (Byte union-at)) (λ at n u. refl)

module _ (m : Message) (size : ℕ) {f : Decoder} {g : Encoder} (a : Twins m size f g) (never : NeverZero m size f) where
  present_envelope_run : {at n u n₁ u₁ : ℕ} {vs rest : List ℕ} → at + size ≤ length m.bytes → n ≤ length m.bytes → Decodes f at n u n₁ u₁ vs rest
      → Decodes (D.present_envelope m size f) at n u n₁ u₁ vs rest
  unfolding D.present_envelope
  present_envelope_run {at} h k (decodes us t e) =
      let z : D.is_zero m at size ≡ false = not_zero m size at h (never.nonzero e h k) in
      decodes us t (rw (z, e))

  pub twins_present_envelope : Twins m size (D.present_envelope m size f) g
  unfolding D.present_envelope
  twins_present_envelope = record {
    well_formed = λ e. a.well_formed e;
    decodes_what_was_encoded = λ e h k l. let x = a.well_formed e in present_envelope_run (omega (arith, h.fits, x.sized)) (omega (arith, k.fits)) (a.decodes_what_was_encoded e h k l);
    encodes_what_was_decoded = λ {at} {n} {u} e h k rest.
        a.encodes_what_was_decoded (require_inv (not (D.is_zero m at size)) (fault present_envelope_zero (Byte at)) (f at n u) e).1 h k rest;
  }

-- ---- flags and numbers keep an envelope from being zero

pub never_zero_flag : (m : Message) (f : Decoder) → NeverZero m 8 (flagged m in_line f)
unfolding flagged
never_zero_flag m f = record {
  nonzero = λ {at} {n} {u} e h k z.
      let r = D.require_after (λ n₁ u₁ vs. eqb (handle_number m at) (u₁ - u)) (fault handle_number_wrong (Byte at)) (f at n u) in
      let i = require_inv (eqb (flags m at) in_line) (fault envelope_form_wrong (Byte at)) r e in
      omega (arith, word_add m.bytes at 6 2 (omega arith), word_zeros m.bytes at 8 z, eqb-true (flags m at) in_line i.0);
}

pub record Grows (m : Message) (f : Decoder) : Type 0 where
  pub grows : {at n u n₁ u₁ : ℕ} {vs : List ℕ} {t : List Event} → f at n u ≡ went n₁ u₁ vs t → at ≤ length m.bytes → n ≤ length m.bytes → n < n₁

pub never_zero_number : (m : Message) (form : ℕ) (f : Decoder) → Grows m f → NeverZero m 8 (flagged m form (byte_numbered m f))
unfolding flagged byte_numbered
never_zero_number m form f g = record {
  nonzero = λ {at} {n} {u} {n₁} e h k z.
      let s = D.require_after (λ n₁ u₁ vs. eqb (low_word m at) (n₁ - n)) (fault byte_number_wrong (Byte at)) (f at n u) in
      let r = D.require_after (λ n₁ u₁ vs. eqb (handle_number m at) (u₁ - u)) (fault handle_number_wrong (Byte at)) s in
      let i = require_inv (eqb (flags m at) form) (fault envelope_form_wrong (Byte at)) r e in
      let j = require_after_inv (λ n₁ u₁ vs. eqb (handle_number m at) (u₁ - u)) (fault handle_number_wrong (Byte at)) s i.1 in
      let l = require_after_inv (λ n₁ u₁ vs. eqb (low_word m at) (n₁ - n)) (fault byte_number_wrong (Byte at)) (f at n u) j.0 in
      omega (arith, word_add m.bytes at 4 4 (omega arith), word_zeros m.bytes at 8 z, eqb-true (low_word m at) (n₁ - n) l.1, g.grows l.0 (omega arith) k);
}
