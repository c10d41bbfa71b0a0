-- How much room is enough for the lists of any message: as many numbers as it has bytes, and four more. Such room is never too
-- small, so that the reader hands back the lists whole.
-- Assumes nothing.
use mathlib.Core.Path.{◌≡◌, refl, ap, ◌∙◌}
use mathlib.Core.Bool.{Bool, true, false}
use Prim.Native.Nat.{ℕ, ◌+◌, ◌≤◌}
use native.Mathlib.Omega.{arith}
use borrow.Author.Tests.{le-leb, ltb-true, ltb-false}
use lib.Dec.{leb, ltb}
use lib.ListN.{length, get_or-eq_default}
use Rattle.rules.specs.declared.Layout.{Layout}
use Rattle.rules.specs.Refusals.{Answer, accepted, refused, and_then}
use Rattle.rules.specs.TypeTable.{TypeTable, row_count, kind_at, FidlType, none, type_of}
use Rattle.rules.specs.Sizes.{layout_as, layout_below, size_of}
use Rattle.rules.specs.Sound.{soundness}
use Rattle.rules.specs.Trace.{object_list}
use Rattle.rules.specs.Decode.{Message}
use Rattle.rules.specs.Answers.{Reading, judged, require_room, read_values, read_objects, Lists, read}
use Rattle.rules.proofs.Demands.{passed}
use Rattle.rules.proofs.Amounts.{HasWidth, of_number, of_enum, of_bits, NumbersHaveBytes, few_numbers}
use Rattle.layout.proofs.Rows.{lists_whole_lem, sound_lists, layout_step_lem}
use Rattle.layout.proofs.Keeping.{sound_bounded}
use Rattle.listing.specs.Listing.{lists_of}

-- ---- a sound table's numbers have a byte at least

-- a row in use has a size, and a number's is its width;
width_size_lem : (t : TypeTable) (inner : ℕ → Layout) {type : FidlType} {width : ℕ} → HasWidth type width → (layout_as t inner type).size ≡ width
unfolding layout_as
width_size_lem t inner of_number = refl
width_size_lem t inner of_enum = refl
width_size_lem t inner of_bits = refl

width_some : (t : TypeTable) → soundness t ≡ accepted tt → (row width : ℕ) → HasWidth (type_of t row) width → ltb row (row_count t) ≡ true → 1 ≤ width
width_some t sound row width is test =
    let size : size_of t row ≡ width = ap (λ (l : Layout). l.size) (layout_step_lem t row) ∙ width_size_lem t (layout_below t row) is in
    omega (arith, (sound_bounded t sound row (ltb-true row (row_count t) test)).some)

-- a row past them all has no kind.
none_past : (t : TypeTable) → soundness t ≡ accepted tt → (row : ℕ) → row_count t ≤ row → type_of t row ≡ none
unfolding type_of
none_past t sound row past =
    let kind : kind_at t row ≡ 0 = get_or-eq_default t.rows 0 (omega (arith, (lists_whole_lem t (sound_lists t sound)).fours)) in
    rw kind

some_type : {type : FidlType} {width : ℕ} → HasWidth type width → type ≡ none → ⊥
some_type of_number e = let z : ◌≡◌ {A = ℕ} 0 1 = cc in omega arith
some_type of_enum e = let z : ◌≡◌ {A = ℕ} 0 1 = cc in omega arith
some_type of_bits e = let z : ◌≡◌ {A = ℕ} 0 1 = cc in omega arith

numbers_have_bytes : (t : TypeTable) → soundness t ≡ accepted tt → NumbersHaveBytes t
numbers_have_bytes t sound row width is = go (ltb row (row_count t)) refl
  where
    go : (test : Bool) → ltb row (row_count t) ≡ test → 1 ≤ width
    go true used = width_some t sound row width is used
    go false past =
        absurd (some_type is (none_past t sound row (ltb-false row (row_count t) past)))

-- ---- room that is enough

-- The reader of both lists, from what was judged.
abbrev read_from : (answer : Answer Reading) (values_room objects_room : ℕ) → Answer Lists
read_from answer values_room objects_room =
    and_then (and_then answer (λ reading. require_room (length (object_list reading.trace)) objects_room (accepted (object_list reading.trace)))) (λ objects.
    and_then (and_then answer (λ reading. require_room (length reading.values) values_room (accepted reading.values))) (λ values. accepted (record { values = values; objects = objects })))

module _ (m : Message) (root values_room objects_room : ℕ) (values_fit : length m.bytes + 4 ≤ values_room) (objects-fit : length m.bytes + 4 ≤ objects_room) where
  enough_from : (answer : Answer Reading) → judged m root ≡ answer
      → read_from answer values_room objects_room ≡ and_then answer (λ reading. accepted (lists_of reading))
  enough_from (refused f) is = refl
  enough_from (accepted reading) is =
      let few = few_numbers m root reading (numbers_have_bytes m.table (passed m root reading is).sound) is in
      let objects : leb (length (object_list reading.trace)) objects_room ≡ true = le-leb (length (object_list reading.trace)) objects_room (omega arith) in
      let values : leb (length reading.values) values_room ≡ true = le-leb (length reading.values) values_room (omega arith) in
      rw (objects, values)

  pub enough : read m root values_room objects_room ≡ and_then (judged m root) (λ reading. accepted (lists_of reading))
  unfolding read read_objects read_values
  enough = enough_from (judged m root) refl
