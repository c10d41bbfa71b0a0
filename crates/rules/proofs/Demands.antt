-- Demands 2 and 3 of specs/Demands.antt, proved: from the twins of the whole walk and the whole writer.
use mathlib.Core.Path.{◌≡◌, refl, sym, ap, ◌∙◌}
use mathlib.Core.Bool.{Bool, true, false}
use mathlib.Core.List.{List, [], ◌∷◌, append-nil}
use Prim.Native.Nat.{ℕ, ◌+◌, ◌≤◌}
use native.Mathlib.Omega.{arith}
use lib.Dec.{leb, eqb}
use borrow.Author.Tests.{leb-true, le-leb, eqb-true, eq-eqb}
use lib.ListN.{length}
use lib.Seq.{take-length}
use Rattle.rules.specs.declared.Place.TheVariants.{Row, Byte, Amount}
use Rattle.rules.specs.declared.Fault.{Fault}
use Rattle.rules.specs.Refusals.{fault, root_not_allowed, message_too_long, too_many_handles, bytes_left, handles_left, room_too_small, Answer, accepted, refused, require, and_then}
use Rattle.rules.specs.Bytes.{Octets, part}
use Rattle.rules.specs.TypeTable.{TypeTable}
use Rattle.rules.specs.Sizes.{size_of}
use Rattle.rules.specs.Sound.{soundness, root_allowed}
use Rattle.rules.specs.Trace.{Event, object_list, Tiles, primary_object}
use Rattle.rules.specs.Decode as D
use Rattle.rules.specs.Decode.{Message, Decoded, went, stopped}
use Rattle.rules.specs.Encode as E
use Rattle.rules.specs.Encode.{Encoded, wrote, cannot}
use Rattle.rules.specs.Walk as W
use Rattle.rules.specs.Writer as R
use Rattle.rules.specs.Answers.{walk, Reading, finished, judged, check, read_values, read_objects, read, Written, closed, encode, written, write}
use Rattle.rules.specs.Demands.{message, Accepted, HasValue, HasObjects, HasBoth, IsWrittenTo, Demand2, Canonical, Demand3}
use Rattle.rules.proofs.Bytes.{StandsAt, stands_nil, octets_nil}
use Rattle.rules.proofs.Trace.{all_handles, UnknownAreObjects}
use Rattle.rules.proofs.Twins.{WellFormed, Decodes, decodes, Encodes, Twins}
use Rattle.rules.proofs.Claims.{twins_claim}
use Rattle.rules.proofs.Envelopes.{nil_of}
use Rattle.rules.proofs.WalkTwins.{twins_row, twins_levels}
use Rattle.rules.proofs.Events.{Met}
use Rattle.rules.proofs.WalkEvents.{walk_true}

-- ---- answers that were accepted

refused_not_accepted : {A : Type 0} {f : Fault} {a : A} → refused f ≡ accepted a → ⊥
refused_not_accepted e = let z : ◌≡◌ {A = ℕ} 0 1 = cc in omega arith

pub require_accepted : {A : Type 0} (b : Bool) (f : Fault) (r : Answer A) {a : A} → require b f r ≡ accepted a → (b ≡ true) × (r ≡ accepted a)
require_accepted true f r e = (refl, e)
require_accepted false f r e = absurd (refused_not_accepted e)

then_accepted : {A B : Type 0} (r : Answer A) (k : A → Answer B) {b : B} → and_then r k ≡ accepted b → (a : A) × (r ≡ accepted a) × (k a ≡ accepted b)
then_accepted (accepted a) k e = (a, refl, e)
then_accepted (refused f) k e = absurd (refused_not_accepted e)

-- ---- the whole walk and the whole writer

twins_whole : (m : Message) (root : ℕ) → Octets m.bytes → length m.bytes ≤ 65536 → m.handles ≤ 64
    → Twins m 0 (D.claim m primary_object root (size_of m.table root) (W.decode_row m (W.levels m 32) root)) (E.claim (size_of m.table root) (R.encode_row m.table (R.levels m.table 32) root))
twins_whole m root oct short few = twins_claim m short primary_object root refl (twins_row m oct short few (twins_levels m oct short few 32) root)

part_whole : (bytes : List ℕ) → part bytes 0 (length bytes) ≡ bytes
unfolding part
part_whole bytes = take-length bytes

pub stands_whole : (bytes xs : List ℕ) → StandsAt bytes 0 xs → length bytes ≡ 0 + length xs → xs ≡ bytes
stands_whole bytes xs h e =
    let l : length xs ≡ length bytes = omega arith in
    sym h.same ∙ ap (part bytes 0) l ∙ part_whole bytes

stands_self : (bytes : List ℕ) → StandsAt bytes 0 bytes
stands_self bytes = record { fits = omega arith; same = part_whole bytes }

-- Every test that an accepted message passed.
pub record Passed (m : Message) (root : ℕ) (r : Reading) : Type 0 where
  pub sound : soundness m.table ≡ accepted tt
  pub allowed : root_allowed m.table root ≡ true
  pub short : leb (length m.bytes) 65536 ≡ true
  pub few : leb m.handles 64 ≡ true
  pub walked : walk m root ≡ went (length m.bytes) m.handles r.values r.trace

finished_inv : (m : Message) (d : Decoded) (r : Reading) → finished m d ≡ accepted r → d ≡ went (length m.bytes) m.handles r.values r.trace
finished_inv m (stopped f vs t) r e = absurd (refused_not_accepted e)
finished_inv m (went n u vs t) r e =
    let held : Reading = record { values = vs; trace = t } in
    let i = require_accepted (eqb n (length m.bytes)) (fault bytes_left (Byte n)) (require (eqb u m.handles) (fault handles_left (Amount u)) (accepted held)) e in
    let j = require_accepted (eqb u m.handles) (fault handles_left (Amount u)) (accepted held) i.1 in
    let h : held ≡ r = cc in
    let v : vs ≡ r.values = ap (λ (s : Reading). s.values) h in
    let w : t ≡ r.trace = ap (λ (s : Reading). s.trace) h in
    let x : n ≡ length m.bytes = eqb-true n (length m.bytes) i.0 in
    let y : u ≡ m.handles = eqb-true u m.handles j.0 in
    rw (x, y, v, w)

pub passed : (m : Message) (root : ℕ) (r : Reading) → judged m root ≡ accepted r → Passed m root r
unfolding judged
passed m root r e =
    let s = then_accepted (soundness m.table) _ e in
    let a = require_accepted (root_allowed m.table root) (fault root_not_allowed (Row root)) _ s.2 in
    let l = require_accepted (leb (length m.bytes) 65536) (fault message_too_long (Byte 0)) _ a.1 in
    let h = require_accepted (leb m.handles 64) (fault too_many_handles (Amount 0)) _ l.1 in
    record { sound = s.1; allowed = a.0; short = l.0; few = h.0; walked = finished_inv m (walk m root) r h.1 }

-- ---- reading, then writing

-- What an accepted message says of itself, before room is asked for.
record Says (m : Message) (root : ℕ) (r : Reading) : Type 0 where
  writes : written m.table root r.values ≡ accepted (record { bytes = m.bytes; handles = m.handles })
  tiles : Tiles 0 (length m.bytes) (object_list r.trace)
  handles : m.handles ≡ all_handles r.trace
  unknowns : UnknownAreObjects r.trace

says_go : (m : Message) (root : ℕ) (r : Reading) → soundness m.table ≡ accepted tt → root_allowed m.table root ≡ true
    → (y : Encodes m (E.claim (size_of m.table root) (R.encode_row m.table (R.levels m.table 32) root)) 0 0 0 (length m.bytes) m.handles r.values r.trace [])
    → WellFormed 0 0 0 y.inl y.ool (length m.bytes) m.handles → Says m root r
unfolding written encode
says_go m root r s a y w =
    let q : y.ool ≡ m.bytes = stands_whole m.bytes y.ool y.out_of_line w.advances in
    let k : E.claim (size_of m.table root) (R.encode_row m.table (R.levels m.table 32) root) r.values 0 0 ≡ wrote y.inl m.bytes (length m.bytes) m.handles [] =
    ap (λ (v : List ℕ). E.claim (size_of m.table root) (R.encode_row m.table (R.levels m.table 32) root) v 0 0) (sym (append-nil r.values)) ∙ y.writes
    ∙ ap (λ (b : List ℕ). wrote y.inl b (length m.bytes) m.handles []) q in
    record { writes = rw (s, a, k); tiles = y.tiles; handles = omega (arith, y.handles); unknowns = y.unknowns }

says : (m : Message) (root : ℕ) (r : Reading) → Octets m.bytes → judged m root ≡ accepted r → Says m root r
unfolding walk
says m root r oct e =
    let p = passed m root r e in
    let g = twins_whole m root oct (leb-true _ _ p.short) (leb-true _ _ p.few) in
    let y = g.encodes_what_was_decoded p.walked (omega arith) (omega arith) [] in
    says_go m root r p.sound p.allowed y (g.well_formed y.writes)

-- ---- writing, then reading

closed_inv : (total : ℕ) (r : Encoded) {bytes : List ℕ} {handles : ℕ} → closed total r ≡ accepted (record { bytes = bytes; handles = handles })
    → (inl : List ℕ) × (n : ℕ) × (r ≡ wrote inl bytes n handles [])
closed_inv total (cannot number left) e = absurd (refused_not_accepted e)
closed_inv total (wrote inl ool n u (v ∷ rest)) e = absurd (refused_not_accepted e)
closed_inv total (wrote inl ool n u []) {bytes} {handles} e =
    let a : Written = record { bytes = ool; handles = u } in
    let b : Written = record { bytes = bytes; handles = handles } in
    let q : a ≡ b = cc in
    let x : ool ≡ bytes = ap (λ (w : Written). w.bytes) q in
    let y : u ≡ handles = ap (λ (w : Written). w.handles) q in
    (inl, n, rw (x, y))

read_back : (m : Message) (root : ℕ) (values : List ℕ) → soundness m.table ≡ accepted tt → root_allowed m.table root ≡ true → length m.bytes ≤ 65536 → m.handles ≤ 64
    → Decodes (D.claim m primary_object root (size_of m.table root) (W.decode_row m (W.levels m 32) root)) 0 0 0 (length m.bytes) m.handles values []
    → (t : List Event) × (judged m root ≡ accepted (record { values = values; trace = t }))
unfolding judged walk
read_back m root values s a short few (decodes us t e) =
    let p : leb (length m.bytes) 65536 ≡ true = le-leb (length m.bytes) 65536 short in
    let q : leb m.handles 64 ≡ true = le-leb m.handles 64 few in
    let c : eqb (length m.bytes) (length m.bytes) ≡ true = eq-eqb (length m.bytes) (length m.bytes) refl in
    let d : eqb m.handles m.handles ≡ true = eq-eqb m.handles m.handles refl in
    (t, rw (s, a, p, q, e, c, d, append-nil))

reads_go : (m : Message) (root n : ℕ) (values inl : List ℕ) → soundness m.table ≡ accepted tt → root_allowed m.table root ≡ true
    → E.claim (size_of m.table root) (R.encode_row m.table (R.levels m.table 32) root) values 0 0 ≡ wrote inl m.bytes n m.handles [] → WellFormed 0 0 0 inl m.bytes n m.handles
    → (t : List Event) × (judged m root ≡ accepted (record { values = values; trace = t }))
reads_go m root n values inl s a e w =
    let short : length m.bytes ≤ 65536 = omega (arith, w.advances, w.within_bytes (omega arith)) in
    let few : m.handles ≤ 64 = w.within_handles (omega arith) in
    let q : n ≡ length m.bytes = omega (arith, w.advances) in
    let g = twins_whole m root w.out_octets short few in
    let k : StandsAt m.bytes 0 inl = rw (nil_of inl w.sized) (stands_nil m.bytes 0 (omega arith)) in
    let d = g.decodes_what_was_encoded e k (stands_self m.bytes) (omega arith) in
    read_back m root values s a short few (rw q at d)

-- The writer's bytes, whatever the message: a message of no bytes has the same table.
form_of : (t : TypeTable) (root : ℕ) (values inl bytes : List ℕ) (n handles : ℕ)
    → E.claim (size_of t root) (R.encode_row t (R.levels t 32) root) values 0 0 ≡ wrote inl bytes n handles [] → WellFormed 0 0 0 inl bytes n handles
form_of t root values inl bytes n handles e = (twins_whole (record { table = t; bytes = []; handles = 0 }) root octets_nil (omega arith) (omega arith)).well_formed e

reads : (m : Message) (root : ℕ) (values : List ℕ) → written m.table root values ≡ accepted (record { bytes = m.bytes; handles = m.handles })
    → (t : List Event) × (judged m root ≡ accepted (record { values = values; trace = t }))
unfolding written encode
reads m root values e =
    let s = then_accepted (soundness m.table) _ e in
    let a = require_accepted (root_allowed m.table root) (fault root_not_allowed (Row root)) _ s.2 in
    let c = closed_inv (length values) _ a.1 in
    reads_go m root c.1 values c.0 s.1 a.0 c.2 (form_of m.table root values c.0 m.bytes c.1 m.handles c.2)

-- ---- with room

module _ (t : TypeTable) (root : ℕ) where
  room_enough : (needed room : ℕ) → needed ≤ room → leb needed room ≡ true
  room_enough needed room h = le-leb needed room h

  value_of : (bytes values : List ℕ) (handles : ℕ) (r : Reading) → judged (message t root bytes handles) root ≡ accepted r → r.values ≡ values → HasValue t root bytes handles values
  unfolding read_values
  value_of bytes values handles r e q room h =
      let b : leb (length r.values) room ≡ true = room_enough (length r.values) room (rw q h) in
      rw (e, b, q)

  objects_of : (bytes : List ℕ) (handles : ℕ) (r : Reading) → judged (message t root bytes handles) root ≡ accepted r → HasObjects t root bytes handles (object_list r.trace)
  unfolding read_objects
  objects_of bytes handles r e room h =
      let b : leb (length (object_list r.trace)) room ≡ true = room_enough _ room h in
      rw (e, b)

  both_of : (bytes values objects : List ℕ) (handles : ℕ) → HasValue t root bytes handles values → HasObjects t root bytes handles objects → HasBoth t root bytes handles values objects
  unfolding read
  both_of bytes values objects handles v o values_room objects_room values_fit objects-fit = rw (o objects_room objects-fit, v values_room values_fit)

  written_to : (values bytes : List ℕ) (handles : ℕ) → written t root values ≡ accepted (record { bytes = bytes; handles = handles }) → IsWrittenTo t root values bytes handles
  unfolding write
  written_to values bytes handles e room h =
      let b : leb (length bytes) room ≡ true = room_enough (length bytes) room h in
      rw (e, b)

  -- Without room: what the answers with room enough say.

  value_inv : (bytes values : List ℕ) (handles : ℕ) → HasValue t root bytes handles values → (r : Reading) × (judged (message t root bytes handles) root ≡ accepted r) × (r.values ≡ values)
  unfolding read_values
  value_inv bytes values handles v =
      let i = then_accepted (judged (message t root bytes handles) root) _ (v (length values) (omega arith)) in
      let j = require_accepted (leb (length i.0.values) (length values)) (fault room_too_small (Amount (length i.0.values))) (accepted i.0.values) i.2 in
      (i.0, i.1, cc)

  written_inv : (values bytes : List ℕ) (handles : ℕ) → IsWrittenTo t root values bytes handles → written t root values ≡ accepted (record { bytes = bytes; handles = handles })
  unfolding write
  written_inv values bytes handles w =
      let i = then_accepted (written t root values) _ (w (length bytes) (omega arith)) in
      let j = require_accepted (leb (length i.0.bytes) (length bytes)) (fault room_too_small (Amount (length i.0.bytes))) (accepted i.0) i.2 in
      i.1 ∙ j.1

  checked : (bytes : List ℕ) (handles : ℕ) (r : Reading) → judged (message t root bytes handles) root ≡ accepted r → Accepted t root bytes handles
  unfolding check
  checked bytes handles r e = rw e

  checked_inv : (bytes : List ℕ) (handles : ℕ) → Accepted t root bytes handles → (r : Reading) × (judged (message t root bytes handles) root ≡ accepted r)
  unfolding check
  checked_inv bytes handles e = let i = then_accepted (judged (message t root bytes handles) root) _ e in (i.0, i.1)

  -- ---- the demands

  encoded : (bytes : List ℕ) (handles : ℕ) (r : Reading) → Octets bytes → judged (message t root bytes handles) root ≡ accepted r → IsWrittenTo t root r.values bytes handles
  encoded bytes handles r oct e = written_to r.values bytes handles (says (message t root bytes handles) root r oct e).writes

  pub demand2 : Demand2 t root
  demand2 = record {
    accepted_exactly_when_encoded = λ bytes handles oct. (
      λ a. let i = checked_inv bytes handles a in (i.0.values, encoded bytes handles i.0 oct i.1),
      λ w. let i = reads (message t root bytes handles) root w.0 (written_inv w.0 bytes handles w.1) in checked bytes handles _ i.1,
    );
    reading_gives_the_value = λ bytes handles values w.
        let i = reads (message t root bytes handles) root values (written_inv values bytes handles w) in
        let v = value_of bytes values handles _ i.1 refl in
        (v, (object_list i.0, both_of bytes values (object_list i.0) handles v (objects_of bytes handles _ i.1)));
    writing_gives_the_message = λ bytes handles values oct v.
        let i = value_inv bytes values handles v in
        let w : IsWrittenTo t root i.0.values bytes handles = encoded bytes handles i.0 oct i.1 in
        rw i.2 at w;
  }

  canonical_of : (bytes : List ℕ) (handles : ℕ) (r : Reading) → Octets bytes → judged (message t root bytes handles) root ≡ accepted r → Canonical t root bytes handles
  canonical_of bytes handles r oct e =
      let s = says (message t root bytes handles) root r oct e in
      let p = passed (message t root bytes handles) root r e in
      let met : Met bytes r.trace = rw p.walked at (walk_true (message t root bytes handles) root) in
      record {
        values = r.values;
        objects = object_list r.trace;
        trace = r.trace;
        trace_is_the_walks = rw p.walked;
        has_value = value_of bytes r.values handles r e refl;
        has_objects = objects_of bytes handles r e;
        has_both = both_of bytes r.values (object_list r.trace) handles (value_of bytes r.values handles r e refl) (objects_of bytes handles r e);
        round_trip = encoded bytes handles r oct e;
        objects_are_claims = refl;
        unknown_content_is_an_object = s.unknowns;
        objects_tile = s.tiles;
        fills_are_zero = met.0;
        handles_add_up = s.handles;
        present_handles_are_ones = met.1;
        unknown_claims_fit = met.2;
      }

  same_written : (values bytes bytes₂ : List ℕ) (handles handles₂ : ℕ) → IsWrittenTo t root values bytes handles → IsWrittenTo t root values bytes₂ handles₂ → (bytes ≡ bytes₂) × (handles ≡ handles₂)
  same_written values bytes bytes₂ handles handles₂ w w₂ =
      let a : Written = record { bytes = bytes; handles = handles } in
      let b : Written = record { bytes = bytes₂; handles = handles₂ } in
      let p : written t root values ≡ accepted a = written_inv values bytes handles w in
      let q : written t root values ≡ accepted b = written_inv values bytes₂ handles₂ w₂ in
      let e : a ≡ b = cc in
      (ap (λ (w : Written). w.bytes) e, ap (λ (w : Written). w.handles) e)

  same_value : (bytes bytes₂ values values₂ : List ℕ) (handles handles₂ : ℕ) → (bytes ≡ bytes₂) × (handles ≡ handles₂) → HasValue t root bytes handles values → HasValue t root bytes₂ handles₂ values₂
      → values ≡ values₂
  same_value bytes bytes₂ values values₂ handles handles₂ q v v₂ =
      let i = value_inv bytes values handles v in
      let j = value_inv bytes₂ values₂ handles₂ v₂ in
      let r : i.0 ≡ j.0 = cc in
      sym i.2 ∙ ap (λ (r : Reading). r.values) r ∙ j.2

  pub demand3 : Demand3 t root
  demand3 = record {
    equal_values_exactly_when_equal = λ bytes bytes₂ handles handles₂ values values₂ oct oct₂ v v₂. (
      λ q.
          let w = demand2.writing_gives_the_message bytes handles values oct v in
          let w₂ = demand2.writing_gives_the_message bytes₂ handles₂ values₂ oct₂ v₂ in
          same_written values₂ bytes bytes₂ handles handles₂ (rw q at w) w₂,
      λ q. same_value bytes bytes₂ values values₂ handles handles₂ q v v₂,
    );
    canonical = λ bytes handles oct a. let i = checked_inv bytes handles a in canonical_of bytes handles i.0 oct i.1;
  }
