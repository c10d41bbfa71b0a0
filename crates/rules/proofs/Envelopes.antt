-- Tests after a part; the byte number, handle number and flags of an envelope: their twins.
use mathlib.Core.Path.{◌≡◌, refl}
use mathlib.Core.Bool.{Bool, true}
use mathlib.Core.List.{List, [], ◌∷◌, ◌++◌}
use Prim.Native.Nat.{ℕ, ◌+◌, ◌-◌, ◌≤◌, ◌<◌}
use native.Mathlib.Omega.{arith}
use lib.Dec.{eqb}
use borrow.Author.Tests.{eqb-true, eq-eqb}
use lib.ListN.{length, length-append, take}
use lib.Seq.{take-append_seam}
use Rattle.rules.specs.declared.Place.TheVariants.{Byte}
use Rattle.rules.specs.declared.Fault.{Fault}
use Rattle.rules.specs.Refusals.{fault, not_a_value, envelope_form_wrong, byte_number_wrong, handle_number_wrong}
use Rattle.rules.specs.Bytes.{Octets, word, bytes_of}
use Rattle.rules.specs.Trace.{Event}
use Rattle.rules.specs.Decode as D
use Rattle.rules.specs.Decode.{Message, Decoder}
use Rattle.rules.specs.Encode as E
use Rattle.rules.specs.Encode.{Encoded, wrote, cannot, Encoder}
use Rattle.rules.specs.Envelope.{low_word, handle_number, flags, byte_numbered, flagged, byte_number_goes, write_byte_number, flags_go, write_flags}
use Rattle.rules.proofs.Bytes.{StandsAt, stands_nil, stands_left, stands_right, stands_join, octets_append, octets_bytes_of, bytes_of_length, word_standing, standing_word}
use Rattle.rules.proofs.Results.{cannot_not_wrote, require_inv, write_require_inv, require_after_inv}
use Rattle.rules.proofs.Twins.{WellFormed, Decodes, decodes, Encodes, Twins}

-- ---- a test of the values

data Checked (holds : List ℕ → Bool) (r : Encoded) (vs : List ℕ) (inl ool : List ℕ) (n u : ℕ) (rest : List ℕ) : Type 0 where
  passed : r ≡ wrote inl ool n u rest → holds (take (length vs - length rest) vs) ≡ true → Checked holds r vs inl ool n u rest

checked_inv : (holds : List ℕ → Bool) (vs : List ℕ) (r : Encoded) {inl ool : List ℕ} {n u : ℕ} {rest : List ℕ}
    → E.checked_goes holds vs r ≡ wrote inl ool n u rest → Checked holds r vs inl ool n u rest
checked_inv holds vs (cannot number left) e = absurd (cannot_not_wrote e)
checked_inv holds vs (wrote inl₁ ool₁ n₁ u₁ rest₁) {inl} {ool} {n} {u} {rest} e =
    let i = write_require_inv (holds (take (length vs - length rest₁) vs)) not_a_value (E.last_taken vs) (wrote inl₁ ool₁ n₁ u₁ rest₁) e in
    let q : wrote inl₁ ool₁ n₁ u₁ rest₁ ≡ wrote inl ool n u rest = i.1 in
    let z : rest₁ ≡ rest = cc in
    passed q (rw z at i.0)

taken_before : (us rest : List ℕ) → take (length (us ++ rest) - length rest) (us ++ rest) ≡ us
taken_before us rest =
    let l : length (us ++ rest) - length rest ≡ length us = rw length-append (omega arith) in
    rw l (take-append_seam us rest)

module _ (m : Message) (holds : List ℕ → Bool) (f : (at : ℕ) (values : List ℕ) → Fault) {s : ℕ} {d : Decoder} {g : Encoder} (a : Twins m s d g) where
  checked_run : {at n u n₁ u₁ : ℕ} {vs rest : List ℕ} → holds (take (length vs - length rest) vs) ≡ true → Decodes d at n u n₁ u₁ vs rest
      → Decodes (D.checked holds f d) at n u n₁ u₁ vs rest
  unfolding D.checked
  checked_run {rest = rest} q (decodes us t e) =
      let w : holds us ≡ true = rw (taken_before us rest) at q in
      decodes us t (rw (e, w))

  checked_decodes : {n u n₁ u₁ : ℕ} {vs inl ool rest : List ℕ} → Checked holds (g vs n u) vs inl ool n₁ u₁ rest
      → {at : ℕ} → StandsAt m.bytes at inl → StandsAt m.bytes n ool → u₁ ≤ m.handles → Decodes (D.checked holds f d) at n u n₁ u₁ vs rest
  checked_decodes (passed e q) h k l = checked_run q (a.decodes_what_was_encoded e h k l)

  checked_form : {n u n₁ u₁ : ℕ} {vs inl ool rest : List ℕ} → Checked holds (g vs n u) vs inl ool n₁ u₁ rest → WellFormed s n u inl ool n₁ u₁
  checked_form (passed e q) = a.well_formed e

  checked_joined : {at n u n₁ u₁ : ℕ} {vs : List ℕ} {t : List Event} {rest : List ℕ} → holds vs ≡ true → Encodes m g at n u n₁ u₁ vs t rest
      → Encodes m (E.checked holds g) at n u n₁ u₁ vs t rest
  unfolding E.checked
  checked_joined {vs = vs} {rest = rest} q r =
      let w : holds (take (length (vs ++ rest) - length rest) (vs ++ rest)) ≡ true = rw (taken_before vs rest) q in
      record { inl = r.inl; ool = r.ool; writes = rw (r.writes, w); inline = r.inline; out_of_line = r.out_of_line; tiles = r.tiles; handles = r.handles; unknowns = r.unknowns }

  pub twins_checked : Twins m s (D.checked holds f d) (E.checked holds g)
  unfolding D.checked E.checked
  twins_checked = record {
    well_formed = λ {vs} {n} {u} e. checked_form (checked_inv holds vs (g vs n u) e);
    decodes_what_was_encoded = λ {vs} {n} {u} e h k l. checked_decodes (checked_inv holds vs (g vs n u) e) h k l;
    encodes_what_was_decoded = λ {at} {n} {u} e h k rest.
        let i = require_after_inv (λ n₁ u₁ vs. holds vs) _ (d at n u) e in
        checked_joined i.1 (a.encodes_what_was_decoded i.0 h k rest);
  }

-- ---- the byte number

pub nil_of : (l : List ℕ) → length l ≡ 0 → l ≡ []
nil_of [] e = refl
nil_of (x ∷ l) e = absurd (omega arith)

data Numbered (r : Encoded) (n n₁ u₁ : ℕ) (rest : List ℕ) : List ℕ → List ℕ → Type 0 where
  numbered : {inl ool : List ℕ} → r ≡ wrote inl ool n₁ u₁ rest → Numbered r n n₁ u₁ rest (bytes_of 4 (n₁ - n)) ool

numbered_inv : (n : ℕ) (r : Encoded) {inl ool : List ℕ} {n₁ u₁ : ℕ} {rest : List ℕ} → byte_number_goes n r ≡ wrote inl ool n₁ u₁ rest → Numbered r n n₁ u₁ rest inl ool
numbered_inv n (cannot number left) e = absurd (cannot_not_wrote e)
numbered_inv n (wrote inl₂ ool₂ n₂ u₂ rest₂) {inl} {ool} {n₁} {u₁} {rest} e =
    let x : inl ≡ bytes_of 4 (n₁ - n) = cc in
    let y : ool ≡ ool₂ = cc in
    let z : wrote inl₂ ool₂ n₂ u₂ rest₂ ≡ wrote inl₂ ool₂ n₁ u₁ rest = cc in
    rw (x, y) (numbered z)

module _ (m : Message) (oct : Octets m.bytes) (short : length m.bytes ≤ 65536) {f : Decoder} {g : Encoder} (a : Twins m 0 f g) where
  numbered_form : {n u n₁ u₁ : ℕ} {vs rest inl ool : List ℕ} → Numbered (g vs n u) n n₁ u₁ rest inl ool → WellFormed 4 n u inl ool n₁ u₁
  numbered_form {n} {u} {n₁} (numbered e) =
      let x = a.well_formed e in
      record {
        sized = bytes_of_length 4 (n₁ - n);
        advances = x.advances;
        used = x.used;
        inline_octets = octets_bytes_of 4 (n₁ - n);
        out_octets = x.out_octets;
        within_bytes = x.within_bytes;
        within_handles = x.within_handles;
        whole = x.whole;
      }

  numbered_run : {at n u n₁ u₁ : ℕ} {vs rest : List ℕ} → low_word m at ≡ n₁ - n → Decodes f at n u n₁ u₁ vs rest → Decodes (byte_numbered m f) at n u n₁ u₁ vs rest
  unfolding byte_numbered
  numbered_run {at} {n} {n₁ = n₁} q (decodes us t e) =
      let z : eqb (low_word m at) (n₁ - n) ≡ true = eq-eqb (low_word m at) (n₁ - n) q in
      decodes us t (rw (e, z))

  numbered_decodes : {n u n₁ u₁ : ℕ} {vs rest inl ool : List ℕ} → Numbered (g vs n u) n n₁ u₁ rest inl ool
      → {at : ℕ} → StandsAt m.bytes at inl → StandsAt m.bytes n ool → u₁ ≤ m.handles → Decodes (byte_numbered m f) at n u n₁ u₁ vs rest
  numbered_decodes {n} {u} {n₁} (numbered {inl = inl} {ool = ool} e) {at} h k l =
      let x = a.well_formed e in
      let z : StandsAt m.bytes at inl = rw (nil_of inl x.sized) (stands_nil m.bytes at (omega (arith, h.fits))) in
      numbered_run (word_standing m.bytes at 4 (n₁ - n) (omega (arith, x.advances, k.fits)) h) (a.decodes_what_was_encoded e z k l)

  numbered_joined : {at n u n₁ u₁ : ℕ} {vs : List ℕ} {t : List Event} {rest : List ℕ} → at + 4 ≤ length m.bytes → low_word m at ≡ n₁ - n
      → Encodes m g at n u n₁ u₁ vs t rest → Encodes m (write_byte_number g) at n u n₁ u₁ vs t rest
  unfolding write_byte_number
  numbered_joined {at} {n} {n₁ = n₁} h q y = record {
    inl = bytes_of 4 (n₁ - n);
    ool = y.ool;
    writes = rw y.writes;
    inline = rw (← q) (standing_word m.bytes at 4 oct h);
    out_of_line = y.out_of_line;
    tiles = y.tiles;
    handles = y.handles;
    unknowns = y.unknowns;
  }

  pub twins_numbered : Twins m 4 (byte_numbered m f) (write_byte_number g)
  unfolding byte_numbered write_byte_number
  twins_numbered = record {
    well_formed = λ {vs} {n} {u} e. numbered_form (numbered_inv n (g vs n u) e);
    decodes_what_was_encoded = λ {vs} {n} {u} e h k l. numbered_decodes (numbered_inv n (g vs n u) e) h k l;
    encodes_what_was_decoded = λ {at} {n} {u} {n₁} e h k rest.
        let i = require_after_inv (λ n₁ u₁ vs. eqb (low_word m at) (n₁ - n)) (fault byte_number_wrong (Byte at)) (f at n u) e in
        numbered_joined h (eqb-true (low_word m at) (n₁ - n) i.1) (a.encodes_what_was_decoded i.0 (omega arith) k rest);
  }

-- ---- handle number and flags

data Flagged (r : Encoded) (form u n₁ u₁ : ℕ) (rest : List ℕ) : List ℕ → List ℕ → Type 0 where
  flagged_as : {inl ool : List ℕ} → r ≡ wrote inl ool n₁ u₁ rest → Flagged r form u n₁ u₁ rest (inl ++ (bytes_of 2 (u₁ - u) ++ bytes_of 2 form)) ool

flagged_inv : (form u : ℕ) (r : Encoded) {inl ool : List ℕ} {n₁ u₁ : ℕ} {rest : List ℕ} → flags_go form u r ≡ wrote inl ool n₁ u₁ rest → Flagged r form u n₁ u₁ rest inl ool
flagged_inv form u (cannot number left) e = absurd (cannot_not_wrote e)
flagged_inv form u (wrote inl₂ ool₂ n₂ u₂ rest₂) {inl} {ool} {n₁} {u₁} {rest} e =
    let x : inl ≡ inl₂ ++ (bytes_of 2 (u₁ - u) ++ bytes_of 2 form) = cc in
    let y : ool ≡ ool₂ = cc in
    let z : wrote inl₂ ool₂ n₂ u₂ rest₂ ≡ wrote inl₂ ool₂ n₁ u₁ rest = cc in
    rw (x, y) (flagged_as z)

-- Four bytes, a handle number and flags stand where the message has them.
pub tail_stands : (bytes : List ℕ) (at handles form : ℕ) → handles < 65536 → form < 65536 → StandsAt bytes (at + 4) (bytes_of 2 handles ++ bytes_of 2 form)
    → (word bytes (at + 4) 2 ≡ handles) × (word bytes (at + 6) 2 ≡ form)
tail_stands bytes at handles form a b h =
    let h₆ : StandsAt bytes (at + 4 + 2) (bytes_of 2 form) = rw bytes_of_length at (stands_right bytes (at + 4) (bytes_of 2 handles) (bytes_of 2 form) h) in
    let c : at + 4 + 2 ≡ at + 6 = omega arith in
    (word_standing bytes (at + 4) 2 handles a (stands_left bytes (at + 4) _ _ h), word_standing bytes (at + 6) 2 form b (rw c at h₆))

pub stands_tail : (bytes : List ℕ) (at handles form : ℕ) → Octets bytes → at + 8 ≤ length bytes → word bytes (at + 4) 2 ≡ handles → word bytes (at + 6) 2 ≡ form
    → StandsAt bytes (at + 4) (bytes_of 2 handles ++ bytes_of 2 form)
stands_tail bytes at handles form o l a b =
    let c : at + 4 + 2 ≡ at + 6 = omega arith in
    rw (← a, ← b) (stands_join bytes (at + 4) _ _ (standing_word bytes (at + 4) 2 o (omega arith)) (rw (bytes_of_length, c) (standing_word bytes (at + 6) 2 o (omega arith))))

module _ (m : Message) (oct : Octets m.bytes) (few : m.handles ≤ 64) (form : ℕ) (small : form < 65536) {f : Decoder} {g : Encoder} (a : Twins m 4 f g) where
  flagged_form : {n u n₁ u₁ : ℕ} {vs rest inl ool : List ℕ} → Flagged (g vs n u) form u n₁ u₁ rest inl ool → WellFormed 8 n u inl ool n₁ u₁
  flagged_form {n} {u} {n₁} {u₁} (flagged_as e) =
      let x = a.well_formed e in
      record {
        sized = simp (length-append, bytes_of_length) (omega arith);
        advances = x.advances;
        used = x.used;
        inline_octets = octets_append _ _ x.inline_octets (octets_append _ _ (octets_bytes_of 2 (u₁ - u)) (octets_bytes_of 2 form));
        out_octets = x.out_octets;
        within_bytes = x.within_bytes;
        within_handles = x.within_handles;
        whole = x.whole;
      }

  flagged_run : {at n u n₁ u₁ : ℕ} {vs rest : List ℕ} → flags m at ≡ form → handle_number m at ≡ u₁ - u → Decodes f at n u n₁ u₁ vs rest → Decodes (flagged m form f) at n u n₁ u₁ vs rest
  unfolding flagged
  flagged_run {at} {n} {u} {n₁} {u₁} w q (decodes us t e) =
      let y : eqb (flags m at) form ≡ true = eq-eqb (flags m at) form w in
      let z : eqb (handle_number m at) (u₁ - u) ≡ true = eq-eqb (handle_number m at) (u₁ - u) q in
      decodes us t (rw (y, e, z))

  flagged_decodes : {n u n₁ u₁ : ℕ} {vs rest inl ool : List ℕ} → Flagged (g vs n u) form u n₁ u₁ rest inl ool
      → {at : ℕ} → StandsAt m.bytes at inl → StandsAt m.bytes n ool → u₁ ≤ m.handles → Decodes (flagged m form f) at n u n₁ u₁ vs rest
  flagged_decodes {n} {u} {n₁} {u₁} (flagged_as {inl = inl} e) {at} h k l =
      let x = a.well_formed e in
      let w = tail_stands m.bytes at (u₁ - u) form (omega arith) small (rw x.sized at (stands_right m.bytes at inl (bytes_of 2 (u₁ - u) ++ bytes_of 2 form) h)) in
      flagged_run w.1 w.0 (a.decodes_what_was_encoded e (stands_left m.bytes at _ _ h) k l)

  flagged_joined : {at n u n₁ u₁ : ℕ} {vs : List ℕ} {t : List Event} {rest : List ℕ} → at + 8 ≤ length m.bytes → flags m at ≡ form → handle_number m at ≡ u₁ - u
      → (y : Encodes m g at n u n₁ u₁ vs t rest) → WellFormed 4 n u y.inl y.ool n₁ u₁ → Encodes m (write_flags form g) at n u n₁ u₁ vs t rest
  unfolding write_flags
  flagged_joined {at} {n} {u} {n₁} {u₁} h w q y x = record {
    inl = y.inl ++ (bytes_of 2 (u₁ - u) ++ bytes_of 2 form);
    ool = y.ool;
    writes = rw y.writes;
    inline = stands_join m.bytes at _ _ y.inline (rw x.sized (stands_tail m.bytes at (u₁ - u) form oct h q w));
    out_of_line = y.out_of_line;
    tiles = y.tiles;
    handles = y.handles;
    unknowns = y.unknowns;
  }

  pub twins_flagged : Twins m 8 (flagged m form f) (write_flags form g)
  unfolding flagged write_flags
  twins_flagged = record {
    well_formed = λ {vs} {n} {u} e. flagged_form (flagged_inv form u (g vs n u) e);
    decodes_what_was_encoded = λ {vs} {n} {u} e h k l. flagged_decodes (flagged_inv form u (g vs n u) e) h k l;
    encodes_what_was_decoded = λ {at} {n} {u} {n₁} {u₁} e h k rest.
        let r = D.require_after (λ n₁ u₁ vs. eqb (handle_number m at) (u₁ - u)) (fault handle_number_wrong (Byte at)) (f at n u) in
        let i = require_inv (eqb (flags m at) form) (fault envelope_form_wrong (Byte at)) r e in
        let j = require_after_inv (λ n₁ u₁ vs. eqb (handle_number m at) (u₁ - u)) (fault handle_number_wrong (Byte at)) (f at n u) i.1 in
        let y = a.encodes_what_was_decoded j.0 (omega arith) k rest in
        flagged_joined h (eqb-true (flags m at) form i.0) (eqb-true (handle_number m at) (u₁ - u) j.1) y (a.well_formed y.writes);
  }
