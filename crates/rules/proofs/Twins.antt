-- What ties a part of the walk to its twin of the writer, and that putting parts together keeps it.
use mathlib.Core.Path.{◌≡◌, refl, sym, ap, ◌∙◌}
use mathlib.Core.Bool.{true}
use mathlib.Core.List.{List, [], ◌++◌, append_assoc}
use Prim.Native.Nat.{ℕ, zero, suc, ◌+◌, ◌*◌, ◌%◌, ◌≤◌}
use native.Mathlib.Omega.{arith}
use lib.Dec.{eqb}
use borrow.Author.Tests.{eqb-true, eq-eqb}
use lib.ListN.{length, length-append}
use Rattle.rules.specs.declared.Place.TheVariants.{Byte}
use Rattle.rules.specs.declared.Fault.{Fault}
use Rattle.rules.specs.Refusals.{fault, fill_not_zero}
use Rattle.rules.specs.Bytes.{Octets, part, zeros, leading_zeros}
use Rattle.rules.specs.Trace.{Event, object_list, present_handles, unknown_handles, unknown_out_of_line, unknown_lengths, Tiles}
use Rattle.rules.specs.Decode as D
use Rattle.rules.specs.Decode.{Message, went, Decoder}
use Rattle.rules.specs.Encode as E
use Rattle.rules.specs.Encode.{wrote, Encoder}
use Rattle.rules.proofs.Bytes.{StandsAt, stands_nil, stands_left, stands_right, stands_join, stands_part, part_length, zeros_length, leading_zeros_zeros, zeros_leading_zeros, octets_append, octets_zeros, octets_nil}
use Rattle.rules.proofs.Trace.{all_handles, all_handles_append, tiles_append, UnknownAreObjects, unknown_append}
use Rattle.rules.proofs.Results.{stopped_not_went, cannot_not_wrote, require_inv, Then, then_inv, WriteThen, write_then_inv}

-- What an encoder wrote: so many bytes in line; whole objects after the next free place; all of it within the limits.
pub record WellFormed (size n u : ℕ) (inl ool : List ℕ) (n₁ u₁ : ℕ) : Type 0 where
  pub sized : length inl ≡ size
  pub advances : n₁ ≡ n + length ool
  pub used : u ≤ u₁
  pub inline_octets : Octets inl
  pub out_octets : Octets ool
  pub within_bytes : n ≤ 65536 → n₁ ≤ 65536
  pub within_handles : u ≤ 64 → u₁ ≤ 64
  pub whole : length ool % 8 ≡ 0

-- A decoder goes on at a place, giving the numbers of `vs` that stand before `rest`.
pub data Decodes (f : Decoder) (at n u n₁ u₁ : ℕ) : List ℕ → List ℕ → Type 0 where
  decodes : (used : List ℕ) (t : List Event) {rest : List ℕ} → f at n u ≡ went n₁ u₁ used t → Decodes f at n u n₁ u₁ (used ++ rest) rest

-- An encoder writes the numbers that were decoded to what stands in the message; and what the trace says.
pub record Encodes (m : Message) (g : Encoder) (at n u n₁ u₁ : ℕ) (vs : List ℕ) (t : List Event) (rest : List ℕ) : Type 0 where
  pub inl : List ℕ
  pub ool : List ℕ
  pub writes : g (vs ++ rest) n u ≡ wrote inl ool n₁ u₁ rest
  pub inline : StandsAt m.bytes at inl
  pub out_of_line : StandsAt m.bytes n ool
  pub tiles : Tiles n n₁ (object_list t)
  pub handles : u₁ ≡ u + all_handles t
  pub unknowns : UnknownAreObjects t

pub record Twins (m : Message) (size : ℕ) (f : Decoder) (g : Encoder) : Type 0 where
  pub well_formed : {vs : List ℕ} {n u : ℕ} {inl ool : List ℕ} {n₁ u₁ : ℕ} {rest : List ℕ} → g vs n u ≡ wrote inl ool n₁ u₁ rest → WellFormed size n u inl ool n₁ u₁
  pub decodes_what_was_encoded : {vs : List ℕ} {n u : ℕ} {inl ool : List ℕ} {n₁ u₁ : ℕ} {rest : List ℕ} → g vs n u ≡ wrote inl ool n₁ u₁ rest
      → {at : ℕ} → StandsAt m.bytes at inl → StandsAt m.bytes n ool → u₁ ≤ m.handles → Decodes f at n u n₁ u₁ vs rest
  pub encodes_what_was_decoded : {at n u n₁ u₁ : ℕ} {vs : List ℕ} {t : List Event} → f at n u ≡ went n₁ u₁ vs t
      → at + size ≤ length m.bytes → n ≤ length m.bytes → (rest : List ℕ) → Encodes m g at n u n₁ u₁ vs t rest

-- ---- parts that take nothing from the list, claim nothing and use no handle

pub plain_form : (bytes : List ℕ) → Octets bytes → {size : ℕ} → length bytes ≡ size → {vs : List ℕ} {n u : ℕ} {inl ool : List ℕ} {n₁ u₁ : ℕ} {rest : List ℕ}
    → wrote bytes [] n u vs ≡ wrote inl ool n₁ u₁ rest → WellFormed size n u inl ool n₁ u₁
plain_form bytes o l {vs} {n} {u} {inl} {ool} {n₁} {u₁} {rest} e =
    let a : bytes ≡ inl = cc in
    let b : [] ≡ ool = cc in
    let c : n ≡ n₁ = cc in
    let d : u ≡ u₁ = cc in
    rw (← a, ← b, ← c, ← d)
    (record { sized = l; advances = omega arith; used = omega arith; inline_octets = o; out_octets = octets_nil; within_bytes = omega arith; within_handles = omega arith; whole = omega arith })

plain_decodes : {f : Decoder} (bytes : List ℕ) {at : ℕ} {vs : List ℕ} {n u : ℕ} {inl ool : List ℕ} {n₁ u₁ : ℕ} {rest : List ℕ}
    → wrote bytes [] n u vs ≡ wrote inl ool n₁ u₁ rest → f at n u ≡ went n u [] [] → Decodes f at n u n₁ u₁ vs rest
plain_decodes bytes {at} {vs} {n} {u} {inl} {ool} {n₁} {u₁} {rest} e q =
    let x : vs ≡ rest = cc in
    let c : n ≡ n₁ = cc in
    let d : u ≡ u₁ = cc in
    rw (x, ← c, ← d) (decodes [] [] q)

plain_encodes : (m : Message) {g : Encoder} (bytes : List ℕ) {at n u n₁ u₁ : ℕ} {vs : List ℕ} {t : List Event} (rest : List ℕ)
    → went n u [] [] ≡ went n₁ u₁ vs t → g rest n u ≡ wrote bytes [] n u rest → StandsAt m.bytes at bytes → n ≤ length m.bytes → Encodes m g at n u n₁ u₁ vs t rest
unfolding object_list present_handles unknown_handles unknown_out_of_line unknown_lengths Tiles
plain_encodes m bytes {at} {n} {u} {n₁} {u₁} {vs} {t} rest e q h k =
    let a : [] ≡ vs = cc in
    let b : [] ≡ t = cc in
    let c : n ≡ n₁ = cc in
    let d : u ≡ u₁ = cc in
    rw (← a, ← b, ← c, ← d)
    (record { inl = bytes; ool = []; writes = q; inline = h; out_of_line = stands_nil m.bytes n k; tiles = refl; handles = omega arith; unknowns = refl })

pub twins_nothing : (m : Message) → Twins m 0 D.nothing E.nothing
twins_nothing m = record {
  well_formed = λ e. plain_form [] octets_nil refl e;
  decodes_what_was_encoded = λ e h k l. plain_decodes [] e refl;
  encodes_what_was_decoded = λ {at} e h k rest. plain_encodes m [] rest e refl (stands_nil m.bytes at (omega arith)) k;
}

pub twins_refuse : (m : Message) (size : ℕ) (f : Fault) (number : ℕ) → Twins m size (D.refuse f) (E.refuse number)
twins_refuse m size f number = record {
  well_formed = λ e. absurd (cannot_not_wrote e);
  decodes_what_was_encoded = λ e h k l. absurd (cannot_not_wrote e);
  encodes_what_was_decoded = λ e h k rest. absurd (stopped_not_went e);
}

pub twins_size : (m : Message) {s t : ℕ} {f : Decoder} {g : Encoder} → s ≡ t → Twins m s f g → Twins m t f g
twins_size m e a = rw e at a

-- ---- one after the other

module _ (m : Message) {s t : ℕ} {f f₂ : Decoder} {g g₂ : Encoder} (a : Twins m s f g) (b : Twins m t f₂ g₂) where
  sequence_form : {n u : ℕ} {inl ool : List ℕ} {n₁ u₁ : ℕ} {rest vs : List ℕ} → WriteThen (g vs n u) g₂ inl ool n₁ u₁ rest → WellFormed (s + t) n u inl ool n₁ u₁
  sequence_form (WriteThen.both e₁ e₂) =
      let x = a.well_formed e₁ in
      let y = b.well_formed e₂ in
      record {
        sized = rw length-append (omega arith);
        advances = rw length-append (omega arith);
        used = omega arith;
        inline_octets = octets_append _ _ x.inline_octets y.inline_octets;
        out_octets = octets_append _ _ x.out_octets y.out_octets;
        within_bytes = λ h. y.within_bytes (x.within_bytes h);
        within_handles = λ h. y.within_handles (x.within_handles h);
        whole = rw length-append (omega (arith, x.whole, y.whole));
      }

  sequence_run : {at n u n₁ u₁ n₂ u₂ : ℕ} {vs vs₁ rest : List ℕ} → Decodes f at n u n₁ u₁ vs vs₁ → Decodes f₂ (at + s) n₁ u₁ n₂ u₂ vs₁ rest
      → Decodes (D.sequence s f f₂) at n u n₂ u₂ vs rest
  unfolding D.sequence
  sequence_run (decodes v t₁ e) (decodes w t₂ d) = rw (← append_assoc) (decodes (v ++ w) (t₁ ++ t₂) (rw (e, d)))

  sequence_decodes : {n u : ℕ} {inl ool : List ℕ} {n₁ u₁ : ℕ} {rest vs : List ℕ} → WriteThen (g vs n u) g₂ inl ool n₁ u₁ rest
      → {at : ℕ} → StandsAt m.bytes at inl → StandsAt m.bytes n ool → u₁ ≤ m.handles → Decodes (D.sequence s f f₂) at n u n₁ u₁ vs rest
  sequence_decodes {n} (WriteThen.both {inl₁ = inl₁} {ool₁ = ool₁} {inl₂ = inl₂} {ool₂ = ool₂} e₁ e₂) {at} h k l =
      let x = a.well_formed e₁ in
      let y = b.well_formed e₂ in
      sequence_run (a.decodes_what_was_encoded e₁ (stands_left m.bytes at inl₁ inl₂ h) (stands_left m.bytes n ool₁ ool₂ k) (omega arith))
      (b.decodes_what_was_encoded e₂ (rw x.sized at (stands_right m.bytes at inl₁ inl₂ h)) (rw (← x.advances) at (stands_right m.bytes n ool₁ ool₂ k)) l)

  sequence_joined : {at n u n₁ u₁ n₂ u₂ : ℕ} {vs₁ vs₂ : List ℕ} {t₁ t₂ : List Event} {rest : List ℕ} (x : Encodes m g at n u n₁ u₁ vs₁ t₁ (vs₂ ++ rest))
      → WellFormed s n u x.inl x.ool n₁ u₁ → Encodes m g₂ (at + s) n₁ u₁ n₂ u₂ vs₂ t₂ rest → Encodes m (E.sequence g g₂) at n u n₂ u₂ (vs₁ ++ vs₂) (t₁ ++ t₂) rest
  unfolding E.sequence
  sequence_joined {at} {n} {u} {n₁} {u₁} {n₂} {u₂} {vs₁} {vs₂} {t₁} {t₂} {rest} x w y = record {
    inl = x.inl ++ y.inl;
    ool = x.ool ++ y.ool;
    writes = rw (append_assoc, x.writes, y.writes);
    inline = stands_join m.bytes at _ _ x.inline (rw w.sized y.inline);
    out_of_line = stands_join m.bytes n _ _ x.out_of_line (rw (← w.advances) y.out_of_line);
    tiles = tiles_append n n₁ n₂ t₁ t₂ x.tiles y.tiles;
    handles = omega (arith, x.handles, y.handles, all_handles_append t₁ t₂);
    unknowns = unknown_append t₁ t₂ x.unknowns y.unknowns;
  }

  sequence_encodes : {at n u n₁ u₁ : ℕ} {vs : List ℕ} {tr : List Event} → Then (f at n u) (λ n₁ u₁. f₂ (at + s) n₁ u₁) n₁ u₁ vs tr
      → at + (s + t) ≤ length m.bytes → n ≤ length m.bytes → (rest : List ℕ) → Encodes m (E.sequence g g₂) at n u n₁ u₁ vs tr rest
  sequence_encodes (Then.both {vs₂ = vs₂} e₁ e₂) h k rest =
      let x = a.encodes_what_was_decoded e₁ (omega arith) k (vs₂ ++ rest) in
      let w = a.well_formed x.writes in
      sequence_joined x w (b.encodes_what_was_decoded e₂ (omega arith) (omega (arith, x.out_of_line.fits, w.advances)) rest)

  pub twins_sequence : Twins m (s + t) (D.sequence s f f₂) (E.sequence g g₂)
  unfolding D.sequence E.sequence
  twins_sequence = record {
    well_formed = λ {vs} {n} {u} e. sequence_form (write_then_inv (g vs n u) g₂ e);
    decodes_what_was_encoded = λ {vs} {n} {u} e h k l. sequence_decodes (write_then_inv (g vs n u) g₂ e) h k l;
    encodes_what_was_decoded = λ {at} {n} {u} e h k rest. sequence_encodes (then_inv (f at n u) (λ n₁ u₁. f₂ (at + s) n₁ u₁) e) h k rest;
  }

elements_step : (m : Message) (s c : ℕ) {f f₂ : Decoder} {g g₂ : Encoder} → Twins m s f g → Twins m (c * s) f₂ g₂ → Twins m (suc c * s) (D.sequence s f f₂) (E.sequence g g₂)
elements_step m s c a b =
    let e : s + c * s ≡ suc c * s = omega arith in
    twins_size m e (twins_sequence m a b)

pub twins_elements : (m : Message) (s : ℕ) (parts : ℕ → Decoder) (twins : ℕ → Encoder) → ((i : ℕ) → Twins m s (parts i) (twins i))
    → (i c : ℕ) → Twins m (c * s) (D.elements s parts i c) (E.elements twins i c)
unfolding D.elements E.elements
twins_elements m s parts twins a i zero = let e : 0 ≡ 0 * s = omega arith in twins_size m e (twins_nothing m)
twins_elements m s parts twins a i (suc c) = elements_step m s c (a i) (twins_elements m s parts twins a (suc i) c)

-- ---- fill

pub zero_standing : (bytes : List ℕ) (at k : ℕ) → StandsAt bytes at (zeros k) → eqb (leading_zeros (part bytes at k)) k ≡ true
zero_standing bytes at k h =
    let e : part bytes at k ≡ zeros k = rw zeros_length at h.same in
    eq-eqb (leading_zeros (part bytes at k)) k (rw e (leading_zeros_zeros k))

pub standing_zero : (bytes : List ℕ) (at k : ℕ) → eqb (leading_zeros (part bytes at k)) k ≡ true → at + k ≤ length bytes → StandsAt bytes at (zeros k)
standing_zero bytes at k e h =
    let l = part_length bytes at k h in
    let z : part bytes at k ≡ zeros k = zeros_leading_zeros (part bytes at k) (eqb-true _ _ e ∙ sym l) ∙ ap zeros l in
    rw z at (stands_part bytes at k h)

-- A part that gives nothing where `k` bytes are zero and is stopped elsewhere; its twin writes the zeros.
pub twins_zeros : (m : Message) (k : ℕ) (f : Decoder) (fault-at : ℕ → Fault) → ((at n u : ℕ) → f at n u ≡ D.require (D.is_zero m at k) (fault-at at) (went n u [] []))
    → Twins m k f (E.fill k)
unfolding E.inline_bytes
twins_zeros m j f fault-at is = record {
  well_formed = λ e. plain_form (zeros j) (octets_zeros j) (zeros_length j) e;
  decodes_what_was_encoded = λ {vs} {n} {u} {inl} {ool} {n₁} {u₁} {rest} e {at} h k l.
      let a : inl ≡ zeros j = cc in
      let z : D.is_zero m at j ≡ true = zero_standing m.bytes at j (rw a at h) in
      plain_decodes (zeros j) e (rw (is at n u, z));
  encodes_what_was_decoded = λ {at} {n} {u} {n₁} {u₁} {vs} {t} e h k rest.
      let i = require_inv (D.is_zero m at j) (fault-at at) (went n u [] []) (rw (is at n u) at e) in
      plain_encodes m (zeros j) rest i.1 refl (standing_zero m.bytes at j i.0 h) k;
}

pub twins_fill : (m : Message) (k : ℕ) → Twins m k (D.fill m k) (E.fill k)
unfolding D.fill
twins_fill m k = twins_zeros m k (D.fill m k) (λ at. fault fill_not_zero (Byte (at + leading_zeros (part m.bytes at k)))) (λ at n u. refl)
