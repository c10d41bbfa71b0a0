-- What the writer answers, and what it leaves in the output lent: 1, 2, the walk's refusals, 22.
-- Assumes nothing.
use Rattle.std.specs.Prelude.{Err, Ok, Result}
use mathlib.Core.Path.{◌≡◌, refl, sym, ap, ◌∙◌}
use mathlib.Core.Bool.{Bool, true, false}
use mathlib.Core.List.{List, ◌++◌, append-nil}
use Prim.Native.Nat.{ℕ, ◌≤◌, ◌<◌}
use native.Mathlib.Omega.{arith}
use lib.ListN.{length, take, drop, drop_of_length-le}
use lib.Seq.{length-take-le}
use Rattle.rules.specs.declared.Fault.{Fault}
use Rattle.rules.specs.declared.Place.TheVariants.{Row, Amount}
use Rattle.rules.specs.Refusals.{fault, root_not_allowed, room_too_small, Answer, accepted, refused, require, and_then}
use Rattle.rules.specs.TypeTable.{TypeTable, eight_byte_envelopes, type_table}
use Rattle.rules.specs.Sound.{soundness, root_allowed}
use Rattle.rules.specs.Answers as Rules
use Rattle.rules.specs.Answers.{encode, closed, written, write, require_room, output_after, numbers_of, sized, answer_of, result_numbers}
use Rattle.rules.proofs.Rooms.{room_short, room_enough, stored_list}
use Rattle.layout.specs.Answers.{RootIs, kept_sizes, kept_alignments, given_if_sound}
use Rattle.layout.proofs.Keeping.{given_sound}
use Rattle.layout.proofs.Roots.{root_in_use}
use Rattle.layout.specs.Ready.{Ready}
use Rattle.writer.specs.declared.Sizes.{Sizes}
use Rattle.writer.specs.Answers.{told, sizes_of}
use Rattle.writer.specs.Passing.{Passed}
use Rattle.writer.proofs.Numbers.{written_numbers}

-- ---- measured

module _ (t : TypeTable) (values : List ℕ) (root : ℕ) where
  -- the answer, before room is asked for
  abbrev pub Measures : Answer Sizes → Type 0
  Measures answer = answer ≡ sizes_of (written t root values)

module _ (rows members entries values : List ℕ) (root : ℕ) (verdict : Result (Unit {0}) Fault) (judged : answer_of verdict ≡ soundness (type_table rows members entries)) where
  pub table_refused : {f : Fault} → verdict ≡ Err f → Measures (type_table rows members entries) values root (refused f)
  unfolding written
  table_refused e = rw (← judged, e)

  module _ (e : verdict ≡ (Ok tt)) {allowed : Bool} (read : RootIs rows root allowed) where
    sound : soundness (type_table rows members entries) ≡ accepted tt
    sound = sym judged ∙ rw e

    pub root_refused : allowed ≡ false → Measures (type_table rows members entries) values root (refused (fault root_not_allowed (Row root)))
    unfolding written
    root_refused q = rw (sound, ← read (type_table rows members entries) refl, q)

    module _ (q : allowed ≡ true) where
      pub root_ready : (sizes alignments : List ℕ) {sizes' alignments' : List ℕ}
          → sizes' ≡ given_if_sound (type_table rows members entries) (kept_sizes (type_table rows members entries)) sizes
          → alignments' ≡ given_if_sound (type_table rows members entries) (kept_alignments (type_table rows members entries)) alignments
          → Ready (type_table rows members entries) sizes' alignments' 32 root
      root_ready sizes alignments s a =
          let t = type_table rows members entries in
          record {
            sound = sound;
            edition = refl;
            sizes_kept = given_sound t (kept_sizes t) sizes sound s;
            alignments_kept = given_sound t (kept_alignments t) alignments sound a;
            depth_left = omega arith;
            in_use = root_in_use t root (sym (read t refl) ∙ q);
          }

      pub measured : {out out' : List ℕ} {r : Result Sizes Fault} → Passed (type_table rows members entries) values root out out' r → Measures (type_table rows members entries) values root (answer_of r)
      unfolding written
      measured p = p.answers ∙ rw (sound, ← read (type_table rows members entries) refl, q)

-- ---- a value list that has a message

-- The message, and that its sizes were measured.
record Held (t : TypeTable) (root : ℕ) (values : List ℕ) (needed : Sizes) : Type 0 where
  message : Rules.Written
  held : written t root values ≡ accepted message
  sizes : needed ≡ record { bytes = length message.bytes; handles = message.handles }

-- Every test was passed.
held_closed : (t : TypeTable) (root : ℕ) (values : List ℕ) {w : Rules.Written} → written t root values ≡ accepted w
    → (soundness t ≡ accepted tt) × (root_allowed t root ≡ true) × (closed (length values) (encode t root values) ≡ accepted w)
unfolding written
held_closed t root values {w} e = go (soundness t) (root_allowed t root) _ e
  where
    go : (s : Answer (Unit {0})) (allowed : Bool) (f : Fault)
        → and_then s (λ _. require allowed f (closed (length values) (encode t root values))) ≡ accepted w
        → (s ≡ accepted tt) × (allowed ≡ true) × (closed (length values) (encode t root values) ≡ accepted w)
    go (accepted s) true f q = (refl, refl, q)
    go (accepted s) false f q = absurd (let z : ◌≡◌ {A = ℕ} 0 1 = cc in omega arith)
    go (refused g) allowed f q = absurd (let z : ◌≡◌ {A = ℕ} 0 1 = cc in omega arith)

-- The part of the output that is lent is as long as asked for.
pub lent_long : (count : ℕ) (out : List ℕ) → count ≤ length out → count ≡ length (take count out)
lent_long count out fits = sym (length-take-le count out fits)

-- What is answered, and what the output holds after.
abbrev pub Gives : (given : Answer Rules.Written) (lent : List ℕ) → Result Sizes Fault → (after : List ℕ) → Type 0
Gives given lent r after = record { answer : answer_of r ≡ sizes_of given; output : after ≡ output_after given lent; numbers : result_numbers 2 told r ≡ numbers_of 2 sized given }

gives : (given : Answer Rules.Written) (lent : List ℕ) (r : Result Sizes Fault) {after : List ℕ} → answer_of r ≡ sizes_of given → after ≡ output_after given lent → Gives given lent r after
gives given lent r e left = record { answer = e; output = left; numbers = written_numbers r given e }

gives_nothing : {given : Answer Rules.Written} {f : Fault} (lent : List ℕ) → given ≡ refused f → Gives given lent (Err f) lent
gives_nothing {given} {f} lent e = gives given lent (Err f) (rw e) (rw e)

module _ (t : TypeTable) (values : List ℕ) (root : ℕ) (a : Result Sizes Fault) (j : Measures t values root (answer_of a)) where
  pub write_refused : {f : Fault} (out : List ℕ) → a ≡ Err f → Gives (write t root values (length out)) out (Err f) out
  unfolding write
  write_refused {f} out e = go (written t root values) (sym (ap answer_of e) ∙ j)
    where
      go : (w : Answer Rules.Written) → refused f ≡ sizes_of w
          → Gives (and_then w (λ m. require_room (length m.bytes) (length out) (accepted m))) out (Err f) out
      go (accepted m) q = absurd (let z : ◌≡◌ {A = ℕ} 0 1 = cc in omega arith)
      go (refused g) q = gives (refused g) out (Err f) q refl

  module _ {needed : Sizes} (e : a ≡ Ok needed) where
    as_held : Held t root values needed
    as_held = go (written t root values) refl (sym (ap answer_of e) ∙ j)
      where
        go : (w : Answer Rules.Written) → written t root values ≡ w → accepted needed ≡ sizes_of w → Held t root values needed
        go (accepted m) y z = record { message = m; held = y; sizes = cc }
        go (refused g) y z = absurd (let w : ◌≡◌ {A = ℕ} 0 1 = cc in omega arith)

    as_long : needed.bytes ≡ length as_held.message.bytes
    as_long = ap (λ (s : Sizes). s.bytes) as_held.sizes

    write_of : (room : ℕ) → write t root values room ≡ require_room (length as_held.message.bytes) room (accepted as_held.message)
    unfolding write
    write_of room = rw as_held.held

    -- The value list may be walked again.
    pub again_ready : (sizes alignments : List ℕ) {sizes' alignments' : List ℕ} → t.edition ≡ eight_byte_envelopes → sizes' ≡ given_if_sound t (kept_sizes t) sizes
        → alignments' ≡ given_if_sound t (kept_alignments t) alignments → Ready t sizes' alignments' 32 root
    again_ready sizes alignments edition s a =
        let p = held_closed t root values as_held.held in
        record {
          sound = p.0;
          edition = edition;
          sizes_kept = given_sound t (kept_sizes t) sizes p.0 s;
          alignments_kept = given_sound t (kept_alignments t) alignments p.0 a;
          depth_left = omega arith;
          in_use = root_in_use t root p.1;
        }

    -- 22
    pub write_room : (out : List ℕ) → length out < needed.bytes
        → Gives (write t root values (length out)) out (Err (fault room_too_small (Amount needed.bytes))) out
    write_room out short = gives_nothing out (write_of (length out) ∙ room_short (length out) _ as_long short)

    -- The part of the output that is lent holds the message and nothing more.
    part_stored : (out : List ℕ) {part : List ℕ} {r : Result Sizes Fault} → Passed t values root (take needed.bytes out) part r → needed.bytes ≤ length out
        → part ≡ as_held.message.bytes
    part_stored out p room =
        let bytes = as_held.message.bytes in
        let long = length-take-le needed.bytes out room in
        let none_left : length (take needed.bytes out) ≤ length bytes = omega (arith, as_long, long) in
        p.stored as_held.message (held_closed t root values as_held.held).2
        ∙ stored_list bytes (take needed.bytes out) (omega (arith, as_long, long))
        ∙ rw (drop_of_length-le (take needed.bytes out) none_left, append-nil)

    pub write_stored : (out : List ℕ) {part : List ℕ} {r : Result Sizes Fault} → Passed t values root (take needed.bytes out) part r → needed.bytes ≤ length out
        → Gives (write t root values (length out)) out r (part ++ drop needed.bytes out)
    write_stored out {r = r} p room =
        let given = write_of (length out) ∙ room_enough (length out) _ as_long room in
        gives (write t root values (length out)) out r (rw given (rw (held_closed t root values as_held.held).2 at p.answers))
        (rw (given, part_stored out p room) (ap (λ (n : ℕ). as_held.message.bytes ++ drop n out) as_long))
