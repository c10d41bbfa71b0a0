-- More room changes nothing: what is given with some room is given with any room that is enough, and with less it is 22. And what is
-- given of both lists is given of each.
-- Assumes nothing.
use mathlib.Core.Path.{◌≡◌, refl, ◌∙◌}
use mathlib.Core.Bool.{Bool, true, false}
use mathlib.Core.List.{List}
use Prim.Native.Nat.{ℕ, ◌≤◌, ◌<◌}
use native.Mathlib.Omega.{arith}
use lib.Dec.{leb}
use lib.ListN.{length}
use Rattle.rules.specs.declared.Fault.{Fault}
use Rattle.rules.specs.declared.Place.TheVariants.{Amount}
use Rattle.rules.specs.Refusals.{fault, room_too_small, Answer, accepted, refused, require, and_then}
use Rattle.rules.specs.TypeTable.{TypeTable}
use Rattle.rules.specs.Decode.{Message}
use Rattle.rules.specs.Trace.{object_list}
use Rattle.rules.specs.Answers as Rules
use Rattle.rules.specs.Answers.{Lists, judged, written, require_room}
use Rattle.rules.proofs.Rooms.{room_short, room_enough}

module _ {A B : Type 0} (give : A → B) (list : B → List ℕ) where
  -- What is given of a result, where there is room for its list.
  abbrev Lent : (whole : Answer A) (room : ℕ) → Answer B
  Lent whole room = and_then whole (λ a. require_room (length (list (give a))) room (accepted (give a)))

  any_room : (whole : Answer A) (room room₂ : ℕ) {b : B} → Lent whole room ≡ accepted b → Lent whole room₂ ≡ require_room (length (list b)) room₂ (accepted b)
  any_room (accepted a) room room₂ {b} e = go (leb (length (list (give a))) room) _ e
    where
      go : (fit : Bool) (f : Fault) → require fit f (accepted (give a)) ≡ accepted b
          → require_room (length (list (give a))) room₂ (accepted (give a)) ≡ require_room (length (list b)) room₂ (accepted b)
      go true f q = let same : give a ≡ b = cc in rw same
      go false f q = absurd (let z : ◌≡◌ {A = ℕ} 0 1 = cc in omega arith)
  any_room (refused f) room room₂ e = absurd (let z : ◌≡◌ {A = ℕ} 0 1 = cc in omega arith)

  more : (whole : Answer A) (room room₂ : ℕ) {b : B} → Lent whole room ≡ accepted b → length (list b) ≤ room₂ → Lent whole room₂ ≡ accepted b
  more whole room room₂ {b} e fits = any_room whole room room₂ e ∙ room_enough room₂ (accepted b) refl fits

pub values_more : (m : Message) (root room room₂ : ℕ) {values : List ℕ} → Rules.read_values m root room ≡ accepted values → length values ≤ room₂
    → Rules.read_values m root room₂ ≡ accepted values
unfolding Rules.read_values
values_more m root room room₂ e fits = more (λ r. r.values) (λ l. l) (judged m root) room room₂ e fits

pub objects_more : (m : Message) (root room room₂ : ℕ) {objects : List ℕ} → Rules.read_objects m root room ≡ accepted objects → length objects ≤ room₂
    → Rules.read_objects m root room₂ ≡ accepted objects
unfolding Rules.read_objects
objects_more m root room room₂ e fits = more (λ r. object_list r.trace) (λ l. l) (judged m root) room room₂ e fits

pub write_more : (t : TypeTable) (root : ℕ) (values : List ℕ) (room room₂ : ℕ) {w : Rules.Written} → Rules.write t root values room ≡ accepted w → length w.bytes ≤ room₂
    → Rules.write t root values room₂ ≡ accepted w
unfolding Rules.write
write_more t root values room room₂ e fits = more (λ w. w) (λ w. w.bytes) (written t root values) room room₂ e fits

pub write_less : (t : TypeTable) (root : ℕ) (values : List ℕ) (room room₂ : ℕ) {w : Rules.Written} → Rules.write t root values room ≡ accepted w → room₂ < length w.bytes
    → Rules.write t root values room₂ ≡ refused (fault room_too_small (Amount (length w.bytes)))
unfolding Rules.write
write_less t root values room room₂ {w} e short = any_room (λ w. w) (λ w. w.bytes) (written t root values) room room₂ e ∙ room_short room₂ (accepted w) refl short

-- Both lists, and each of them alone.
pub record Each (m : Message) (root values_room objects_room : ℕ) (lists : Lists) : Type 0 where
  pub values : Rules.read_values m root values_room ≡ accepted lists.values
  pub objects : Rules.read_objects m root objects_room ≡ accepted lists.objects

pub each_of : (m : Message) (root values_room objects_room : ℕ) {lists : Lists} → Rules.read m root values_room objects_room ≡ accepted lists → Each m root values_room objects_room lists
unfolding Rules.read
each_of m root values_room objects_room {lists} e = go (Rules.read_objects m root objects_room) (Rules.read_values m root values_room) refl refl e
  where
    go : (o v : Answer (List ℕ)) → Rules.read_objects m root objects_room ≡ o → Rules.read_values m root values_room ≡ v
        → and_then o (λ objects. and_then v (λ values. accepted (record { values = values; objects = objects }))) ≡ accepted lists → Each m root values_room objects_room lists
    go (accepted objects) (accepted values) p q z =
        let both : Lists = record { values = values; objects = objects } in
        let same : both ≡ lists = cc in
        rw (← same) (record { values = q; objects = p })
    go (accepted objects) (refused f) p q z = absurd (let y : ◌≡◌ {A = ℕ} 0 1 = cc in omega arith)
    go (refused f) v p q z = absurd (let y : ◌≡◌ {A = ℕ} 0 1 = cc in omega arith)
