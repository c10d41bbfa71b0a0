-- Handles, records and objects: their twins.
use mathlib.Core.Path.{◌≡◌, refl}
use mathlib.Core.Bool.{true, false}
use mathlib.Core.List.{List, [], ◌∷◌, ◌++◌}
use Prim.Native.Nat.{ℕ, ◌+◌, ◌-◌, ◌≤◌}
use native.Mathlib.Omega.{arith}
use lib.Dec.{leb, eqb}
use borrow.Author.Tests.{leb-true, le-leb}
use lib.ListN.{length, length-append}
use Rattle.rules.specs.declared.Place.TheVariants.{Byte}
use Rattle.rules.specs.Refusals.{fault, fill_not_zero, object_does_not_fit, message_too_long}
use Rattle.rules.specs.Bytes.{Octets, part, zeros, leading_zeros, padded}
use Rattle.rules.specs.Trace.{Event, claimed, present_handle, unknown_object, object_list, present_handles, unknown_handles, unknown_out_of_line, unknown_lengths, Tiles}
use Rattle.rules.specs.Decode as D
use Rattle.rules.specs.Decode.{Message, Decoder, ReadRecord, got}
use Rattle.rules.specs.Encode as E
use Rattle.rules.specs.Encode.{Encoded, wrote, Encoder, WriteRecord, put}
use Rattle.rules.proofs.Bytes.{StandsAt, stands_nil, stands_left, stands_right, stands_join, zeros_length, padded_above, padded_whole, octets_append, octets_zeros, octets_nil}
use Rattle.rules.proofs.Results.{Took, took, took_inv, Taken, taken, taken_inv, require_inv, write_require_inv, After, after_inv, Record, record_inv, WriteOf, write_record_inv, AsObject, object, object_inv}
use Rattle.rules.proofs.Twins.{WellFormed, Decodes, decodes, Encodes, Twins, zero_standing, standing_zero}

-- ---- handles

take_form : {count : ℕ} {vs : List ℕ} {n u : ℕ} {inl ool : List ℕ} {n₁ u₁ : ℕ} {rest : List ℕ} → Taken count vs n u inl ool n₁ u₁ rest → WellFormed 0 n u inl ool n₁ u₁
take_form (taken h) = record {
  sized = refl;
  advances = omega arith;
  used = omega arith;
  inline_octets = octets_nil;
  out_octets = octets_nil;
  within_bytes = omega arith;
  within_handles = omega arith;
  whole = omega arith;
}

take_decodes : (m : Message) (word_at place : ℕ) {vs : List ℕ} {at n u : ℕ} {inl ool : List ℕ} {n₁ u₁ : ℕ} {rest : List ℕ} → Taken 1 vs n u inl ool n₁ u₁ rest → u₁ ≤ m.handles
    → Decodes (D.take_handles m word_at (present_handle place)) at n u n₁ u₁ vs rest
unfolding D.take_handles
take_decodes m word_at place {u = u} (taken h) l =
    let z : leb (u + 1) m.handles ≡ true = le-leb (u + 1) m.handles l in
    decodes [] (present_handle place ∷ []) (rw z)

take_encodes : (m : Message) → m.handles ≤ 64 → (place : ℕ) {at n u n₁ u₁ : ℕ} {vs : List ℕ} {t : List Event} → Took m (present_handle place) n u n₁ u₁ vs t → at ≤ length m.bytes
    → n ≤ length m.bytes → (rest : List ℕ) → Encodes m (E.take_handles 1) at n u n₁ u₁ vs t rest
unfolding E.take_handles object_list present_handles unknown_handles unknown_out_of_line unknown_lengths Tiles
take_encodes m few place {at} {n} {u} (took h) p k rest =
    let z : leb (u + 1) 64 ≡ true = le-leb (u + 1) 64 (omega arith) in
    record { inl = []; ool = []; writes = rw z; inline = stands_nil m.bytes at p; out_of_line = stands_nil m.bytes n k; tiles = refl; handles = omega arith; unknowns = refl }

-- A present handle. Unknown content takes handles too: Unknown.antt.
pub twins_handle : (m : Message) → m.handles ≤ 64 → (word_at place : ℕ) → Twins m 0 (D.take_handles m word_at (present_handle place)) (E.take_handles 1)
twins_handle m few word_at place = record {
  well_formed = λ {vs} {n} {u} e. take_form (taken_inv 1 vs n u e);
  decodes_what_was_encoded = λ {vs} {n} {u} e h k l. take_decodes m word_at place (taken_inv 1 vs n u e) l;
  encodes_what_was_decoded = λ {at} {n} {u} e h k rest. take_encodes m few place (took_inv m word_at (present_handle place) at n u e) (omega arith) k rest;
}

-- ---- records

-- A record is read as a value exactly where the value's bytes stand.
pub record RecordTwins (m : Message) (size : ℕ) (read : ℕ → ReadRecord) (write : ℕ → WriteRecord) : Type 0 where
  pub sized : {v : ℕ} {bytes : List ℕ} → write v ≡ put bytes → length bytes ≡ size
  pub octets : {v : ℕ} {bytes : List ℕ} → write v ≡ put bytes → Octets bytes
  pub reads_what_was_written : {v : ℕ} {bytes : List ℕ} {at : ℕ} → write v ≡ put bytes → StandsAt m.bytes at bytes → read at ≡ got v
  pub writes_what_was_read : {at v : ℕ} → read at ≡ got v → at + size ≤ length m.bytes → (bytes : List ℕ) × (write v ≡ put bytes) × StandsAt m.bytes at bytes

module _ (m : Message) {s t : ℕ} {read : ℕ → ReadRecord} {write : ℕ → WriteRecord} {K : ℕ → ℕ → Decoder} {G : ℕ → Encoder} (a : RecordTwins m s read write)
    (b : (q v : ℕ) → Twins m t (K q v) (G v)) where
  record_form : {n u n₁ u₁ : ℕ} {rest vs inl ool : List ℕ} → WriteOf write G n u n₁ u₁ rest vs inl ool → WellFormed (s + t) n u inl ool n₁ u₁
  record_form (WriteOf.record_of {v = v} e₁ e₂) =
      let x = a.sized e₁ in
      let y = (b 0 v).well_formed e₂ in
      record {
        sized = rw length-append (omega arith);
        advances = y.advances;
        used = y.used;
        inline_octets = octets_append _ _ (a.octets e₁) y.inline_octets;
        out_octets = y.out_octets;
        within_bytes = y.within_bytes;
        within_handles = y.within_handles;
        whole = y.whole;
      }

  record_run : {at n u n₁ u₁ v : ℕ} {vs rest : List ℕ} → read at ≡ got v → Decodes (K at v) (at + s) n u n₁ u₁ vs rest → Decodes (D.record_then s read K) at n u n₁ u₁ (v ∷ vs) rest
  unfolding D.record_then
  record_run {v = v} q (decodes us t₁ e) = decodes (v ∷ us) t₁ (rw (q, e))

  record_decodes : {n u n₁ u₁ : ℕ} {rest vs inl ool : List ℕ} → WriteOf write G n u n₁ u₁ rest vs inl ool
      → {at : ℕ} → StandsAt m.bytes at inl → StandsAt m.bytes n ool → u₁ ≤ m.handles → Decodes (D.record_then s read K) at n u n₁ u₁ vs rest
  record_decodes (WriteOf.record_of {v = v} {bytes = bs} {inl = inl} e₁ e₂) {at} h k l =
      record_run (a.reads_what_was_written e₁ (stands_left m.bytes at bs inl h))
      ((b at v).decodes_what_was_encoded e₂ (rw (a.sized e₁) at (stands_right m.bytes at bs inl h)) k l)

  record_joined : {at n u n₁ u₁ v : ℕ} {vs : List ℕ} {tr : List Event} {rest bs : List ℕ} → write v ≡ put bs → StandsAt m.bytes at bs
      → Encodes m (G v) (at + s) n u n₁ u₁ vs tr rest → Encodes m (E.record_then write G) at n u n₁ u₁ (v ∷ vs) tr rest
  unfolding E.record_then
  record_joined {at = at} {bs = bs} e h y = record {
    inl = bs ++ y.inl;
    ool = y.ool;
    writes = rw (e, y.writes);
    inline = stands_join m.bytes at _ _ h (rw (a.sized e) y.inline);
    out_of_line = y.out_of_line;
    tiles = y.tiles;
    handles = y.handles;
    unknowns = y.unknowns;
  }

  record_encodes : {at n u n₁ u₁ : ℕ} {vs : List ℕ} {tr : List Event} → Record (read at) (λ v. K at v (at + s) n u) n₁ u₁ vs tr
      → at + (s + t) ≤ length m.bytes → n ≤ length m.bytes → (rest : List ℕ) → Encodes m (E.record_then write G) at n u n₁ u₁ vs tr rest
  record_encodes {at} (Record.record_of {v = v} e₁ e₂) h k rest =
      let x = a.writes_what_was_read e₁ (omega arith) in
      record_joined x.1 x.2 ((b at v).encodes_what_was_decoded e₂ (omega arith) k rest)

  pub twins_record : Twins m (s + t) (D.record_then s read K) (E.record_then write G)
  unfolding D.record_then
  twins_record = record {
    well_formed = λ {vs} e. record_form (write_record_inv write G vs e);
    decodes_what_was_encoded = λ {vs} e h k l. record_decodes (write_record_inv write G vs e) h k l;
    encodes_what_was_decoded = λ {at} {n} {u} e h k rest. record_encodes (record_inv (read at) (λ v. K at v (at + s) n u) e) h k rest;
  }

-- ---- objects

-- What was written in line, moved out of line with its fill.
pub object_form : (size : ℕ) {n u n₁ u₁ : ℕ} {r : Encoded} {rest inl ool : List ℕ}
    → ((inl ool : List ℕ) → r ≡ wrote inl ool n₁ u₁ rest → WellFormed size (n + padded size) u inl ool n₁ u₁)
    → leb (n + padded size) 65536 ≡ true → AsObject size r n₁ u₁ rest inl ool → WellFormed 0 n u inl ool n₁ u₁
object_form size {n} w b (object e) =
    let x = w _ _ e in
    let l = padded_above size in
    record {
      sized = refl;
      advances = simp (length-append, zeros_length) (omega arith);
      used = x.used;
      inline_octets = octets_nil;
      out_octets = octets_append _ _ (octets_append _ _ x.inline_octets (octets_zeros (padded size - size))) x.out_octets;
      within_bytes = λ h. x.within_bytes (leb-true (n + padded size) 65536 b);
      within_handles = x.within_handles;
      whole = simp (length-append, zeros_length) (omega (arith, x.sized, x.whole, l, padded_whole size));
    }

-- An object stands in the message where its in-line bytes, its fill and what was claimed after it stand.
pub record ObjectStands (bytes : List ℕ) (size n : ℕ) (inl ool : List ℕ) : Type 0 where
  pub fits : n + padded size ≤ length bytes
  pub inline : StandsAt bytes n inl
  pub filled : StandsAt bytes (n + size) (zeros (padded size - size))
  pub out_of_line : StandsAt bytes (n + padded size) ool

pub object_stands : (bytes : List ℕ) (size n : ℕ) (inl ool : List ℕ) → length inl ≡ size → StandsAt bytes n ((inl ++ zeros (padded size - size)) ++ ool) → ObjectStands bytes size n inl ool
object_stands bytes size n inl ool sized k =
    let y = padded_above size in
    let hp : StandsAt bytes n (inl ++ zeros (padded size - size)) = stands_left bytes n _ ool k in
    let q : n + length (inl ++ zeros (padded size - size)) ≡ n + padded size = simp (length-append, zeros_length) (omega arith) in
    let ho : StandsAt bytes (n + padded size) ool = rw q at (stands_right bytes n (inl ++ zeros (padded size - size)) ool k) in
    record {
      fits = omega (arith, ho.fits);
      inline = stands_left bytes n _ _ hp;
      filled = rw sized at (stands_right bytes n inl (zeros (padded size - size)) hp);
      out_of_line = ho;
    }

pub stands_object : (bytes : List ℕ) (size n : ℕ) (inl ool : List ℕ) → length inl ≡ size → StandsAt bytes n inl → StandsAt bytes (n + size) (zeros (padded size - size))
    → StandsAt bytes (n + padded size) ool → StandsAt bytes n ((inl ++ zeros (padded size - size)) ++ ool)
stands_object bytes size n inl ool sized i z o =
    let l = padded_above size in
    let q : n + length (inl ++ zeros (padded size - size)) ≡ n + padded size = simp (length-append, zeros_length) (omega arith) in
    stands_join bytes n _ _ (stands_join bytes n _ _ i (rw sized z)) (rw q o)

module _ (m : Message) (short : length m.bytes ≤ 65536) (kind row : ℕ) (ordinary : eqb kind unknown_object ≡ false) {s : ℕ} {f : Decoder} {g : Encoder} (a : Twins m s f g) where
  claim_run : {at n u n₁ u₁ : ℕ} {vs rest : List ℕ} → leb (n + padded s) (length m.bytes) ≡ true → D.is_zero m (n + s) (padded s - s) ≡ true
      → Decodes f n (n + padded s) u n₁ u₁ vs rest → Decodes (D.claim m kind row s f) at n u n₁ u₁ vs rest
  unfolding D.claim
  claim_run {n = n} e₁ e₂ (decodes us t e) = decodes us (claimed kind row n s ∷ t) (rw (e₁, e₂, e))

  claim_decodes : {n u n₁ u₁ : ℕ} {vs rest inl ool : List ℕ} → AsObject s (g vs (n + padded s) u) n₁ u₁ rest inl ool
      → {at : ℕ} → StandsAt m.bytes n ool → u₁ ≤ m.handles → Decodes (D.claim m kind row s f) at n u n₁ u₁ vs rest
  claim_decodes {n = n} (object {inl = inl} {ool = ool} e) k l =
      let o = object_stands m.bytes s n inl ool (a.well_formed e).sized k in
      claim_run (le-leb (n + padded s) (length m.bytes) o.fits) (zero_standing m.bytes _ _ o.filled) (a.decodes_what_was_encoded e o.inline o.out_of_line l)

  claim_joined : {at n u n₁ u₁ : ℕ} {vs : List ℕ} {t : List Event} {rest : List ℕ} → at ≤ length m.bytes → n + padded s ≤ length m.bytes
      → StandsAt m.bytes (n + s) (zeros (padded s - s)) → (y : Encodes m g n (n + padded s) u n₁ u₁ vs t rest) → WellFormed s (n + padded s) u y.inl y.ool n₁ u₁
      → Encodes m (E.claim s g) at n u n₁ u₁ vs (claimed kind row n s ∷ t) rest
  unfolding E.claim object_list present_handles unknown_handles unknown_out_of_line unknown_lengths Tiles
  claim_joined {at} {n} h i z y w =
      let b : leb (n + padded s) 65536 ≡ true = le-leb (n + padded s) 65536 (omega arith) in
      record {
        inl = [];
        ool = (y.inl ++ zeros (padded s - s)) ++ y.ool;
        writes = rw (b, y.writes);
        inline = stands_nil m.bytes at h;
        out_of_line = stands_object m.bytes s n y.inl y.ool w.sized y.inline z y.out_of_line;
        tiles = (refl, y.tiles);
        handles = y.handles;
        unknowns = rw ordinary y.unknowns;
      }

  claim_encodes : {at n u n₁ u₁ : ℕ} {vs : List ℕ} {t : List Event} → After [] (claimed kind row n s ∷ []) (f n (n + padded s) u) n₁ u₁ vs t
      → leb (n + padded s) (length m.bytes) ≡ true → D.is_zero m (n + s) (padded s - s) ≡ true → at ≤ length m.bytes → (rest : List ℕ) → Encodes m (E.claim s g) at n u n₁ u₁ vs t rest
  claim_encodes {n = n} (After.after e) b z h rest =
      let l = padded_above s in
      let i = leb-true _ _ b in
      let y = a.encodes_what_was_decoded e (omega arith) i rest in
      claim_joined h i (standing_zero m.bytes (n + s) _ z (omega arith)) y (a.well_formed y.writes)

  pub twins_claim : Twins m 0 (D.claim m kind row s f) (E.claim s g)
  unfolding D.claim E.claim
  twins_claim = record {
    well_formed = λ {vs} {n} {u} e.
        let i = write_require_inv (leb (n + padded s) 65536) message_too_long (E.last_taken vs) (E.as_object s (g vs (n + padded s) u)) e in
        object_form s (λ inl ool q. a.well_formed q) i.0 (object_inv s (g vs (n + padded s) u) i.1);
    decodes_what_was_encoded = λ {vs} {n} {u} e {at} h k l.
        claim_decodes (object_inv s (g vs (n + padded s) u) (write_require_inv (leb (n + padded s) 65536) message_too_long (E.last_taken vs) (E.as_object s (g vs (n + padded s) u)) e).1) k l;
    encodes_what_was_decoded = λ {at} {n} {u} e h k rest.
        let r = D.after [] (claimed kind row n s ∷ []) (f n (n + padded s) u) in
        let z = D.require_zero m (n + s) (padded s - s) r in
        let i = require_inv (leb (n + padded s) (length m.bytes)) (fault object_does_not_fit (Byte n)) z e in
        let j = require_inv (D.is_zero m (n + s) (padded s - s)) (fault fill_not_zero (Byte (n + s + leading_zeros (part m.bytes (n + s) (padded s - s))))) r i.1 in
        claim_encodes (after_inv _ _ (f n (n + padded s) u) j.1) i.0 j.0 (omega arith) rest;
  }
