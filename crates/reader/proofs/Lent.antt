-- What the public functions answer, and what they leave in the lists lent: after every test of the checker, 22.
-- Assumes nothing.
use Rattle.std.specs.Prelude.{Err, Ok, Result}
use mathlib.Core.Path.{◌≡◌, refl, ap, ◌∙◌}
use mathlib.Core.List.{List}
use Prim.Native.Nat.{ℕ, ◌≤◌, ◌<◌}
use native.Mathlib.Omega.{arith}
use lib.ListN.{length}
use lib.Seq.{sets}
use Rattle.rules.specs.declared.Fault.{Fault}
use Rattle.rules.specs.declared.Place.TheVariants.{Amount}
use Rattle.rules.specs.Refusals.{fault, room_too_small, Answer, accepted, refused, lent_after}
use Rattle.rules.specs.TypeTable.{TypeTable}
use Rattle.rules.specs.Trace.{object_list}
use Rattle.rules.specs.Decode.{Message}
use Rattle.rules.specs.Answers as A
use Rattle.rules.specs.Answers.{Lists, judged, require_room, numbers_of, nothing, counted, both_counted, answer_of, result_numbers}
use Rattle.rules.proofs.Rooms.{room_short, room_enough, stored_list}
use Rattle.rules.proofs.Numbers.{result_numbers_lem}
use Rattle.reader.specs.declared.Lengths.{Lengths}
use Rattle.walk_leaves.specs.Doing.{message}
use Rattle.reader.specs.Answers.{one, both, length_of, lengths_of, values_in, objects_in}
use Rattle.reader.specs.Passing.{Passed, judged_lengths}
use Rattle.reader.proofs.Numbers.{given_numbers, reading_numbers}
use Rattle.reader.proofs.Judging.{Held, as_refused, as_held, held_lists}

-- ---- a list that is lent

-- One list: what is answered of it, and what it holds after.
abbrev pub Gives : (given : Answer (List ℕ)) (lent : List ℕ) → Result ℕ Fault → (after : List ℕ) → Type 0
Gives given lent r after = record { answer : answer_of r ≡ length_of given; list : after ≡ lent_after given lent; numbers : result_numbers 1 one r ≡ numbers_of 1 counted given }

gives : (given : Answer (List ℕ)) (lent : List ℕ) (r : Result ℕ Fault) {after : List ℕ} → answer_of r ≡ length_of given → after ≡ lent_after given lent → Gives given lent r after
gives given lent r e left = record { answer = e; list = left; numbers = given_numbers r given e }

gives_nothing : {given : Answer (List ℕ)} {f g : Fault} (lent : List ℕ) → given ≡ refused f → g ≡ f → Gives given lent (Err g) lent
gives_nothing {given} {g = g} lent e q = gives given lent (Err g) (rw (e, q)) (rw e)

gives_list : {given : Answer (List ℕ)} {list : List ℕ} (lent : List ℕ) {after : List ℕ} {count : ℕ} → given ≡ accepted list → count ≡ length list → count ≤ length lent
    → after ≡ sets lent 0 list → Gives given lent (Ok count) after
gives_list {given} {list} lent {count = count} e n room s = gives given lent (Ok count) (rw (e, n)) (rw e (s ∙ stored_list list lent (omega arith)))

-- Both lists.
abbrev pub GivesBoth : (given : Answer Lists) (values objects : List ℕ) → Result Lengths Fault → (values' objects' : List ℕ) → Type 0
GivesBoth given values objects r values' objects' =
    record {
      answer : answer_of r ≡ lengths_of given;
      values : values' ≡ lent_after (values_in given) values;
      objects : objects' ≡ lent_after (objects_in given) objects;
      numbers : result_numbers 2 both r ≡ numbers_of 2 both_counted given;
    }

gives_both : (given : Answer Lists) (values objects : List ℕ) (r : Result Lengths Fault) {values' objects' : List ℕ} → answer_of r ≡ lengths_of given
    → values' ≡ lent_after (values_in given) values → objects' ≡ lent_after (objects_in given) objects → GivesBoth given values objects r values' objects'
gives_both given values objects r e left left-objects = record { answer = e; values = left; objects = left-objects; numbers = reading_numbers r given e }

gives_neither : {given : Answer Lists} {f g : Fault} (values objects : List ℕ) → given ≡ refused f → g ≡ f
    → GivesBoth given values objects (Err g) values objects
gives_neither {given} {g = g} values objects e q = gives_both given values objects (Err g) (rw (e, q)) (rw e) (rw e)

-- ---- what is answered of a message

module _ (t : TypeTable) (bytes : List ℕ) (root handles : ℕ) where
  abbrev here : Message
  here = message t bytes handles

  -- what the rules give of one that is refused,
  module _ {f : Fault} (e : judged here root ≡ refused f) where
    no_values : (room : ℕ) → A.read_values here root room ≡ refused f
    unfolding A.read_values
    no_values room = rw e

    no_objects : (room : ℕ) → A.read_objects here root room ≡ refused f
    unfolding A.read_objects
    no_objects room = rw e

    no_lists : (values_room objects_room : ℕ) → A.read here root values_room objects_room ≡ refused f
    unfolding A.read
    no_lists values_room objects_room = rw (no_objects objects_room)

  -- and of one that is accepted, with what the second pass stored
  module _ {lengths : Lengths} (h : Held here root lengths) where
    abbrev values_held : List ℕ
    values_held = h.reading.values

    abbrev objects_held : List ℕ
    objects_held = object_list h.reading.trace

    values_of : (room : ℕ) → A.read_values here root room ≡ require_room (length values_held) room (accepted values_held)
    unfolding A.read_values
    values_of room = rw h.held

    objects_of : (room : ℕ) → A.read_objects here root room ≡ require_room (length objects_held) room (accepted objects_held)
    unfolding A.read_objects
    objects_of room = rw h.held

    -- 22 of the objects first, then of the values
    objects_first : (values_room objects_room : ℕ) → objects_room < lengths.objects
        → A.read here root values_room objects_room ≡ refused (fault room_too_small (Amount lengths.objects))
    unfolding A.read
    objects_first values_room objects_room short = rw (objects_of objects_room, room_short objects_room (accepted objects_held) h.objects short)

    values_next : (values_room objects_room : ℕ) → lengths.objects ≤ objects_room → values_room < lengths.values
        → A.read here root values_room objects_room ≡ refused (fault room_too_small (Amount lengths.values))
    unfolding A.read
    values_next values_room objects_room room short =
        rw (
          objects_of objects_room,
          room_enough objects_room (accepted objects_held) h.objects room,
          values_of values_room,
          room_short values_room (accepted values_held) h.values short,
        )

    both_of : (values_room objects_room : ℕ) → lengths.objects ≤ objects_room → lengths.values ≤ values_room
        → A.read here root values_room objects_room ≡ accepted (record { values = values_held; objects = objects_held })
    unfolding A.read
    both_of values_room objects_room objects-fit values_fit =
        rw (
          objects_of objects_room,
          room_enough objects_room (accepted objects_held) h.objects objects-fit,
          values_of values_room,
          room_enough values_room (accepted values_held) h.values values_fit,
        )

    lengths_held : accepted lengths ≡ accepted (record { values = length values_held; objects = length objects_held })
    lengths_held = rw (← h.values, ← h.objects)

    module _ {values values' objects objects' : List ℕ} {r : Result Lengths Fault} (p : Passed t bytes root handles values values' objects objects' r) where
      values_stored : values' ≡ sets values 0 values_held
      values_stored = p.valued ∙ ap (sets values 0) (held_lists h).0

      objects_stored : objects' ≡ sets objects 0 objects_held
      objects_stored = p.listed ∙ rw (held_lists h).1

  -- What the checker promises.
  abbrev pub Checks : Result (Unit {0}) Fault → Type 0
  Checks r = record { answer : answer_of r ≡ A.check here root; numbers : result_numbers 0 nothing r ≡ numbers_of 0 nothing (A.check here root) }

  module _ {a : Result Lengths Fault} (j : answer_of a ≡ judged_lengths here root) where
    pub check_refused : {f : Fault} → a ≡ Err f → Checks (Err f)
    unfolding A.check
    check_refused {f} e = let c : refused f ≡ A.check here root = rw (as_refused here root a j e) in record { answer = c; numbers = result_numbers_lem 0 nothing (Err f) c }

    pub check_accepted : {lengths : Lengths} → a ≡ Ok lengths → Checks (Ok tt)
    unfolding A.check
    check_accepted e = let c : accepted tt ≡ A.check here root = rw (as_held here root a j e).held in record { answer = c; numbers = result_numbers_lem 0 nothing (Ok tt) c }

    pub values_refused : {f : Fault} (lent : List ℕ) → a ≡ Err f → Gives (A.read_values here root (length lent)) lent (Err f) lent
    values_refused lent e = gives_nothing lent (no_values (as_refused here root a j e) (length lent)) refl

    pub objects_refused : {f : Fault} (lent : List ℕ) → a ≡ Err f → Gives (A.read_objects here root (length lent)) lent (Err f) lent
    objects_refused lent e = gives_nothing lent (no_objects (as_refused here root a j e) (length lent)) refl

    pub both_refused : {f : Fault} (values objects : List ℕ) → a ≡ Err f
        → GivesBoth (A.read here root (length values) (length objects)) values objects (Err f) values objects
    both_refused values objects e = gives_neither values objects (no_lists (as_refused here root a j e) (length values) (length objects)) refl

    module _ {lengths : Lengths} (e : a ≡ Ok lengths) where
      -- 22
      pub values_room : {f : Fault} (lent : List ℕ) → length lent < lengths.values → f ≡ fault room_too_small (Amount lengths.values)
          → Gives (A.read_values here root (length lent)) lent (Err f) lent
      values_room lent short q =
          let h = as_held here root a j e in
          gives_nothing lent (values_of h (length lent) ∙ room_short (length lent) _ h.values short) q

      pub objects_room : {f : Fault} (lent : List ℕ) → length lent < lengths.objects → f ≡ fault room_too_small (Amount lengths.objects)
          → Gives (A.read_objects here root (length lent)) lent (Err f) lent
      objects_room lent short q =
          let h = as_held here root a j e in
          gives_nothing lent (objects_of h (length lent) ∙ room_short (length lent) _ h.objects short) q

      pub both_objects_room : {f : Fault} (values objects : List ℕ) → length objects < lengths.objects → f ≡ fault room_too_small (Amount lengths.objects)
          → GivesBoth (A.read here root (length values) (length objects)) values objects (Err f) values objects
      both_objects_room values objects short q =
          gives_neither values objects (objects_first (as_held here root a j e) (length values) (length objects) short) q

      pub both_values_room : {f : Fault} (values objects : List ℕ) → lengths.objects ≤ length objects → length values < lengths.values
          → f ≡ fault room_too_small (Amount lengths.values)
          → GivesBoth (A.read here root (length values) (length objects)) values objects (Err f) values objects
      both_values_room values objects room short q =
          gives_neither values objects (values_next (as_held here root a j e) (length values) (length objects) room short) q

      -- what is given
      module _ {values values' objects objects' : List ℕ} {r : Result Lengths Fault} (p : Passed t bytes root handles values values' objects objects' r) where
        pub values_read : lengths.values ≤ length values → Gives (A.read_values here root (length values)) values (Ok lengths.values) values'
        values_read room =
            let h = as_held here root a j e in
            gives_list values (values_of h (length values) ∙ room_enough (length values) _ h.values room) h.values room (values_stored h p)

        pub objects_read : lengths.objects ≤ length objects → Gives (A.read_objects here root (length objects)) objects (Ok lengths.objects) objects'
        objects_read room =
            let h = as_held here root a j e in
            gives_list objects (objects_of h (length objects) ∙ room_enough (length objects) _ h.objects room) h.objects room (objects_stored h p)

        pub both_read : lengths.objects ≤ length objects → lengths.values ≤ length values
            → GivesBoth (A.read here root (length values) (length objects)) values objects (Ok lengths) values' objects'
        both_read objects-fit values_fit =
            let h = as_held here root a j e in
            let given = both_of h (length values) (length objects) objects-fit values_fit in
            gives_both (A.read here root (length values) (length objects)) values objects (Ok lengths) (rw given (lengths_held h))
            (rw given (values_stored h p ∙ stored_list (values_held h) values (omega (arith, h.values))))
            (rw given (objects_stored h p ∙ stored_list (objects_held h) objects (omega (arith, h.objects))))
