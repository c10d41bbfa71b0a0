-- The round trip: what was read of a message is written to that message; and the first refusal, where there is one.
-- Assumes nothing.
use Rattle.std.specs.Prelude.{Err, Ok, Result}
use mathlib.Core.Path.{◌≡◌, refl, sym, ap, ◌∙◌}
use mathlib.Core.Bool.{Bool, true, false, ◌&&◌}
use mathlib.Core.List.{List, [], ◌∷◌, ◌++◌}
use Prim.Native.Nat.{ℕ, suc, ◌≤◌, ◌<◌}
use native.Mathlib.Omega.{arith}
use borrow.Author.Tests.{leb-true, eq-eqb}
use lib.Dec.{leb, eqb}
use lib.ListN.{length, take, drop, get_or, length-append}
use lib.Seq.{take_at, length-take-le}
use Rattle.rules.specs.declared.Place.TheVariants.{Amount}
use Rattle.rules.specs.declared.Fault.{Fault}
use Rattle.rules.specs.Refusals.{fault, place_number, room_too_small, Answer, accepted, refused, require, and_then, lent_after}
use Rattle.rules.specs.Bytes.{Octets}
use Rattle.rules.specs.TypeTable.{TypeTable, type_table}
use Rattle.rules.specs.Decode.{Message}
use Rattle.rules.specs.Answers as Rules
use Rattle.rules.specs.Answers.{judged, require_room, output_after, answer_of}
use Rattle.rules.specs.Demands.{IsWrittenTo}
use Rattle.rules.proofs.Demands as Proved
use Rattle.rules.proofs.Rooms.{room_short, room_enough}
use Rattle.walk_leaves.specs.Doing as Doing
use Rattle.reader.specs.Answers.{length_of}
use Rattle.writer.specs.declared.Sizes.{Sizes}
use Rattle.writer.specs.Answers.{sizes_of}
use Rattle.demands.specs.declared.Trip.{Trip}
use Rattle.demands.specs.declared.Trip.TheVariants.{Same}
use Rattle.demands.specs.Trips.{trip, trip_values, output_too_small, trip_of, ComesBack}
use Rattle.demands.proofs.More.{write_less}

-- Numbers that each fit a byte are bytes.
pub octets : (l : List ℕ) → ((i : ℕ) → get_or l i 0 < 256) → Octets l
unfolding Octets
octets [] h = tt
octets (x ∷ l) h = (h 0, octets l (λ i. h (suc i)))

-- So many numbers of a list that starts with them are all that was given, and fit the list.
pub record Starts (count : ℕ) (list after : List ℕ) : Type 0 where
  pub within : count ≤ length after
  pub long : count ≡ length (take count after)
  pub same : take count after ≡ list

starts : (list rest : List ℕ) {count : ℕ} {after : List ℕ} → count ≡ length list → after ≡ list ++ rest → Starts count list after
starts list rest {count} {after} n e =
    let fits : count ≤ length after = omega (arith, ap length e, length-append list rest) in
    record { within = fits; long = sym (length-take-le count after fits); same = rw e (take_at list rest count (sym n)) }

-- ---- what was read, written where there is room

module _ (t : TypeTable) (root : ℕ) (values message : List ℕ) (handles : ℕ) (out out' : List ℕ) (is : IsWrittenTo t root values message handles × (length message ≤ length out)) (a : Result Sizes Fault)
    (answer : answer_of a ≡ sizes_of (Rules.write t root values (length out))) (output : out' ≡ output_after (Rules.write t root values (length out)) out) where
  written_back : Rules.write t root values (length out) ≡ accepted (record { bytes = message; handles = handles })
  written_back = is.0 (length out) is.1

  pub back_output : out' ≡ message ++ drop (length message) out
  back_output = output ∙ rw written_back

  pub back_accepted : {f : Fault} → a ≡ Err f → ⊥
  back_accepted {f} e =
      let sizes : Sizes = record { bytes = length message; handles = handles } in
      let z : refused f ≡ accepted sizes = sym (ap answer_of e) ∙ answer ∙ rw written_back in
      let y : ◌≡◌ {A = ℕ} 0 1 = cc in
      omega arith

  module _ {sizes : Sizes} (e : a ≡ Ok sizes) where
    sizes_back : sizes ≡ record { bytes = length message; handles = handles }
    sizes_back = let z : accepted sizes ≡ accepted (record { bytes = length message; handles = handles }) = sym (ap answer_of e) ∙ answer ∙ rw written_back in cc

    pub back_starts : Starts sizes.bytes message out'
    back_starts = starts message (drop (length message) out) (ap (λ (s : Sizes). s.bytes) sizes_back) back_output

    pub back_handles : sizes.handles ≡ handles
    back_handles = ap (λ (s : Sizes). s.handles) sizes_back

-- Equal bytes and equal handle counts pass the test.
pub never_different : {same : Bool} {a b : ℕ} → same ≡ true → a ≡ b → (same && eqb a b) ≡ false → ⊥
never_different {same} {a} {b} p q e =
    let passed : (same && eqb a b) ≡ true = rw (p, eq-eqb a b q) in
    let z : ◌≡◌ {A = ℕ} 0 1 = cc in
    omega arith

-- ---- what an accepted message holds, whatever the room

pub record Held (m : Message) (root : ℕ) : Type 0 where
  pub list : List ℕ
  pub reads : (room : ℕ) → Rules.read_values m root room ≡ require_room (length list) room (accepted list)

pub held_of : (m : Message) (root : ℕ) → Rules.check m root ≡ accepted tt → Held m root
unfolding Rules.check Rules.read_values
held_of m root e = go (judged m root) refl e
  where
    go : (j : Answer Rules.Reading) → judged m root ≡ j → and_then j (λ reading. accepted (tt {0})) ≡ accepted tt → Held m root
    go (accepted reading) q z = record { list = reading.values; reads = λ room. rw q }
    go (refused f) q z = absurd (let y : ◌≡◌ {A = ℕ} 0 1 = cc in omega arith)

held_written : (m : Message) (root : ℕ) (h : Held m root) → Octets m.bytes → IsWrittenTo m.table root h.list m.bytes m.handles
held_written m root h oct =
    (Proved.demand2 m.table root).writing_gives_the_message m.bytes m.handles h.list oct (λ room fits. h.reads room ∙ room_enough room (accepted h.list) refl fits)

-- ---- the room that is missing

module _ (m : Message) (root : ℕ) (passed : Rules.check m root ≡ accepted tt) where
  abbrev all : List ℕ
  all = (held_of m root passed).list

  values_short : (room : ℕ) → room < length all → refused (fault room_too_small (Amount (length all))) ≡ output_too_small m root room
  values_short room short =
      let e : Rules.read_values m root room ≡ refused (fault room_too_small (Amount (length all))) = (held_of m root passed).reads room ∙ room_short room (accepted all) refl short in
      rw e

  values_fit : (room : ℕ) → length all ≤ room → refused (fault room_too_small (Amount (length m.bytes))) ≡ output_too_small m root room
  values_fit room fits =
      let e : Rules.read_values m root room ≡ accepted all = (held_of m root passed).reads room ∙ room_enough room (accepted all) refl fits in
      rw e

  -- A reader that is lent no room tells how many numbers there are.
  module _ (g : Result ℕ Fault) (answer : answer_of g ≡ length_of (Rules.read_values m root 0)) where
    told : answer_of g ≡ length_of (require_room (length all) 0 (accepted all))
    told = answer ∙ ap length_of ((held_of m root passed).reads 0)

    counted : {f : Fault} → g ≡ Err f → length all ≡ place_number f.place
    counted {f} e = go (leb (length all) 0) (sym (ap answer_of e) ∙ told)
      where
        go : (b : Bool) → refused f ≡ length_of (require b (fault room_too_small (Amount (length all))) (accepted all)) → length all ≡ place_number f.place
        go true z = absurd (let y : ◌≡◌ {A = ℕ} 0 1 = cc in omega arith)
        go false z = let y : f ≡ fault room_too_small (Amount (length all)) = cc in rw y

    pub needs_values : {f : Fault} (room : ℕ) {count : ℕ} → g ≡ Err f → count ≡ place_number f.place → room < count → refused (fault 22 (Amount count)) ≡ output_too_small m root room
    needs_values room {count} e is short =
        let n : count ≡ length all = is ∙ sym (counted e) in
        rw n (values_short room (rw n at short))

    pub needs_bytes : {f : Fault} (room : ℕ) {count : ℕ} → g ≡ Err f → count ≡ place_number f.place → count ≤ room
        → refused (fault 22 (Amount (length m.bytes))) ≡ output_too_small m root room
    needs_bytes room {count} e is fits = values_fit room (omega (arith, is, counted e))

    pub no_values : {count : ℕ} (room : ℕ) → g ≡ Ok count → refused (fault 22 (Amount (length m.bytes))) ≡ output_too_small m root room
    no_values {count} room e = go (leb (length all) 0) refl (sym (ap answer_of e) ∙ told)
      where
        go : (b : Bool) → leb (length all) 0 ≡ b → accepted count ≡ length_of (require b (fault room_too_small (Amount (length all))) (accepted all))
            → refused (fault 22 (Amount (length m.bytes))) ≡ output_too_small m root room
        go true q z = values_fit room (omega (arith, leb-true (length all) 0 q))
        go false q z = absurd (let y : ◌≡◌ {A = ℕ} 0 1 = cc in omega arith)

then_same : {A B : Type 0} (b : Bool) (f : Fault) (a : A) (k k₂ : A → Answer B) → k a ≡ k₂ a → and_then (require b f (accepted a)) k ≡ and_then (require b f (accepted a)) k₂
then_same true f a k k₂ e = e
then_same false f a k k₂ e = refl

trip_too_small : (m : Message) (root values_room out-room : ℕ) → Octets m.bytes → Rules.check m root ≡ accepted tt → out-room < length m.bytes
    → trip m root values_room out-room ≡ output_too_small m root values_room
trip_too_small m root values_room out-room oct passed short =
    let h = held_of m root passed in
    let w : Rules.write m.table root h.list out-room ≡ refused (fault room_too_small (Amount (length m.bytes))) =
    write_less m.table root h.list (length m.bytes) out-room (held_written m root h oct (length m.bytes) (omega arith)) short in
    rw (passed, h.reads values_room)
    (then_same (leb (length h.list) values_room) (fault room_too_small (Amount (length h.list))) h.list (λ values. Rules.write m.table root values out-room)
    (λ values. refused (fault room_too_small (Amount (length m.bytes)))) w)

-- ---- there and back again

module _ (rows members entries message : List ℕ) (root handles : ℕ) (verdict : Result (Unit {0}) Fault) (checked : answer_of verdict ≡ Rules.check (Doing.message (type_table rows members entries) message handles) root) where
  -- What the round trip promises: its answer, and both lists after it.
  abbrev Trips : (lent values' out out' : List ℕ) → Result Trip Fault → Type 0
  Trips lent values' out out' r =
      record {
        answer : r ≡ trip_of (trip (Doing.message (type_table rows members entries) message handles) root (length lent) (length out));
        values : values' ≡ lent_after (trip_values (Doing.message (type_table rows members entries) message handles) root (length lent) (length out)) lent;
        output : out' ≡ output_after (trip (Doing.message (type_table rows members entries) message handles) root (length lent) (length out)) out;
      }

  refused_trip : {values out : List ℕ} {f : Fault} → trip (Doing.message (type_table rows members entries) message handles) root (length values) (length out) ≡ refused f
      → Trips values values out out (Err f)
  refused_trip e = record { answer = rw e; values = rw e; output = rw e }

  pub trip_unchecked : {values out : List ℕ} {f : Fault} → verdict ≡ Err f → Trips values values out out (Err f)
  trip_unchecked {f = f} e =
      let c : refused f ≡ Rules.check (Doing.message (type_table rows members entries) message handles) root = sym (ap answer_of e) ∙ checked in
      refused_trip (rw (← c))

  module _ (e : verdict ≡ (Ok tt)) where
    pub passed : Rules.check (Doing.message (type_table rows members entries) message handles) root ≡ accepted tt
    passed = sym checked ∙ ap answer_of e

    abbrev pub held : Held (Doing.message (type_table rows members entries) message handles) root
    held = held_of (Doing.message (type_table rows members entries) message handles) root passed

    pub trip_short : {values out : List ℕ} {count : ℕ} → Octets message → length out < length message
        → refused (fault 22 (Amount count)) ≡ output_too_small (Doing.message (type_table rows members entries) message handles) root (length values)
        → Trips values values out out (Err (fault 22 (Amount count)))
    trip_short {values} {out} oct short e =
        refused_trip (trip_too_small (Doing.message (type_table rows members entries) message handles) root (length values) (length out) oct passed short ∙ sym e)

    module _ (values values' : List ℕ) (g : Result ℕ Fault) (answer : answer_of g ≡ length_of (Rules.read_values (Doing.message (type_table rows members entries) message handles) root (length values)))
        (list : values' ≡ lent_after (Rules.read_values (Doing.message (type_table rows members entries) message handles) root (length values)) values) where
      pub trip_unread : {out : List ℕ} {f : Fault} → g ≡ Err f → Trips values values' out out (Err f)
      trip_unread {out} {f} q =
          let r : Rules.read_values (Doing.message (type_table rows members entries) message handles) root (length values) ≡ refused f =
          go (Rules.read_values (Doing.message (type_table rows members entries) message handles) root (length values)) (sym (ap answer_of q) ∙ answer) in
          let kept : values' ≡ values = list ∙ rw r in
          rw kept (refused_trip (rw (passed, r)))
        where
          go : (r : Answer (List ℕ)) → refused f ≡ length_of r → r ≡ refused f
          go (accepted given) z = absurd (let y : ◌≡◌ {A = ℕ} 0 1 = cc in omega arith)
          go (refused h) z = let y : f ≡ h = cc in rw y

      -- What the message holds was read, all of it.
      read_all : {count : ℕ} → g ≡ Ok count
          → (Rules.read_values (Doing.message (type_table rows members entries) message handles) root (length values) ≡ accepted held.list) × (count ≡ length held.list)
      read_all {count} q =
          let x = go (leb (length held.list) (length values)) (sym (ap answer_of q) ∙ answer ∙ ap length_of (held.reads (length values))) in
          (held.reads (length values) ∙ x.0, x.1)
        where
          go : (b : Bool) → accepted count ≡ length_of (require b (fault room_too_small (Amount (length held.list))) (accepted held.list))
              → (require b (fault room_too_small (Amount (length held.list))) (accepted held.list) ≡ accepted held.list) × (count ≡ length held.list)
          go true z = (refl, cc)
          go false z = absurd (let y : ◌≡◌ {A = ℕ} 0 1 = cc in omega arith)

      pub read_starts : {count : ℕ} → g ≡ Ok count → Starts count held.list values'
      read_starts q = let x = read_all q in starts held.list (drop (length held.list) values) x.1 (list ∙ rw x.0)

      pub read_written : {count : ℕ} → Octets message → g ≡ Ok count → IsWrittenTo (type_table rows members entries) root (take count values') message handles
      read_written oct q = rw (read_starts q).same (held_written (Doing.message (type_table rows members entries) message handles) root held oct)

      pub trip_back : {count : ℕ} (out out' : List ℕ) {r : Result Trip Fault} → Octets message → length message ≤ length out → g ≡ Ok count
          → record { answer : r ≡ Ok Same; output : out' ≡ message ++ drop (length message) out } → Trips values values' out out' r
      trip_back out out' oct fits q back =
          let x = read_all q in
          let w = held_written (Doing.message (type_table rows members entries) message handles) root held oct (length out) fits in
          record { answer = back.answer ∙ rw (passed, x.0, w); values = list ∙ rw (passed, x.0, w); output = back.output ∙ rw (passed, x.0, w) }

pub comes_back : (m : Message) (root : ℕ) → ComesBack m root
comes_back m root oct accepts =
    let c = (Proved.demand3 m.table root).canonical m.bytes m.handles oct accepts in
    (c.values, λ values_room out-room values_fit out-fits. rw (accepts, c.has_value values_room values_fit, c.round_trip out-room out-fits))
