-- The values that stand in line: for each kind, what the functions below the walk put is what the rules' writer of the row puts.
-- Assumes nothing.
use Rattle.std.specs.Prelude.{Ok}
use mathlib.Core.Bool.{Bool, true, false, ◌||◌}
use mathlib.Core.List.{List}
use mathlib.Core.Path.{◌≡◌, refl, sym, ◌∙◌}
use Prim.Native.Nat.{ℕ, ◌+◌, ◌*◌, ◌≤◌, ◌<◌}
use native.Mathlib.Omega.{arith}
use lib.Dec.{eqb}
use lib.Seq.{sets}
use Rattle.rules.specs.Bytes.{zeros}
use Rattle.rules.specs.TypeTable.{TypeTable, kind_at, a_at, b_at, c_at}
use Rattle.rules.specs.Sizes.{size_of}
use Rattle.rules.specs.Envelope.{encode_word}
use Rattle.rules.specs.Writer as R
use Rattle.nesting.specs.Nesting.{has_parts}
use Rattle.rules.specs.Sound.{width_allowed}
use Rattle.layout.specs.Ready.{Ready}
use Rattle.layout.proofs.ByKind.{size_bool, size_number, size_handle, size_array, size_string, number_width, array_below}
use Rattle.nesting.proofs.NoParts.{array_left, struct_empty, array_numbers, size_empty}
use Rattle.layout.proofs.Readiness.{row_few, ready_at}
use Rattle.write_leaves.specs.declared.cursor.Cursor.{Cursor}
use Rattle.write_leaves.specs.Putting.{Wrote, PutsInLine, Stands, Ask}
use Rattle.write_leaves.specs.InLine.{bool_as, handle_as, numbers_as}
use Rattle.write_records.specs.Promises.{StringPuts}
use Rattle.write_walk.specs.Walking.{ValuePut, ElementsPut}
use Rattle.write_leaves.proofs.Leading.{ask_stands}
use Rattle.write_leaves.proofs.Filling.{fill_put}
use Rattle.write_walk.proofs.ByKind.{encode_bool, encode_number, encode_handle, encode_array, encode_string, encode_empty}

-- ---- scalars and strings

module _ (t : TypeTable) (values out out' : List ℕ) (base depth at : ℕ) (c : Cursor) (row : ℕ) (r : Wrote) {k : ℕ} (e : k ≡ kind_at t row) where
  pub value_bool : k ≡ 1 → PutsInLine values out out' 1 at c r bool_as → ValuePut t values out out' base depth at c row r
  value_bool q p =
      rw (encode_bool t (R.levels t depth) row (sym e ∙ q), size_bool t row (sym e ∙ q)) (p base)

  pub value_number : {a : ℕ} → k ≡ 2 → a ≡ a_at t row → PutsInLine values out out' a at c r (encode_word a) → ValuePut t values out out' base depth at c row r
  value_number q f p =
      rw (encode_number t (R.levels t depth) row (sym e ∙ q), size_number t row (sym e ∙ q), ← f) (p base)

  pub value_handle : {a : ℕ} → k ≡ 3 → a ≡ a_at t row → ((t : TypeTable) → PutsInLine values out out' 4 at c r (handle_as t (eqb a 1)))
      → ValuePut t values out out' base depth at c row r
  value_handle q f p =
      rw (encode_handle t (R.levels t depth) row (sym e ∙ q), size_handle t row (sym e ∙ q), ← f) (p t base)

  pub value_string : {b f : ℕ} → k ≡ 6 → b ≡ b_at t row → f ≡ c_at t row → StringPuts values out out' depth at c base b f r
      → ValuePut t values out out' base depth at c row r
  value_string q g h p =
      rw (encode_string t (R.levels t depth) row (sym e ∙ q), size_string t row (sym e ∙ q), ← g, ← h) (p t)

  value_array : {a b : ℕ} → k ≡ 4 → a ≡ a_at t row → b ≡ b_at t row → a < row → ElementsPut t values out out' base depth at c a b r
      → ValuePut t values out out' base depth at c row r
  value_array q f g h p =
      let below : a_at t row < row = rw f at h in
      rw (encode_array t (R.levels t depth) row (sym e ∙ q) below, size_array t row (sym e ∙ q) below, ← f, ← g) p

-- What strings are asked for.
pub string_ask : (t : TypeTable) (row : ℕ) {k : ℕ} {values : List ℕ} {at base : ℕ} {c : Cursor} → k ≡ kind_at t row → k ≡ 6
    → Ask values (size_of t row) at base c → Ask values 16 at base c
string_ask t row e q a = rw (size_string t row (sym e ∙ q)) at a

-- ---- numbers, one or a run of them

module _ {t : TypeTable} {sizes alignments : List ℕ} {depth row : ℕ} (ready : Ready t sizes alignments depth row) {k width : ℕ}
    (e : k ≡ kind_at t row) (q : k ≡ 2) (f : width ≡ a_at t row) where
  allowed : width_allowed width ≡ true
  allowed = rw f (number_width t row ready.sound ready.in_use (sym e ∙ q))

  wide : size_of t row ≡ width
  wide = size_number t row (sym e ∙ q) ∙ sym f

  pub number_ask : {values : List ℕ} {at base : ℕ} {c : Cursor} → Ask values (size_of t row) at base c
      → (width_allowed width ≡ true) × Stands values c
  number_ask ask = (allowed, ask_stands ask)

  pub numbers_ask : {values : List ℕ} {at base : ℕ} {c : Cursor} (count : ℕ) → Ask values (count * size_of t row) at base c
      → (width_allowed width ≡ true) × Stands values c × (at + count * width ≤ 65536)
  numbers_ask {at = at} {base} {c} count ask =
      let inside : base + (at + count * width) ≤ c.next = rw wide at ask.inside in
      (allowed, ask_stands ask, omega (arith, ask.free))

  pub numbers_done : (values out out' : List ℕ) (base at : ℕ) (c : Cursor) (count : ℕ) (r : Wrote) → PutsInLine values out out' (count * width) at c r (numbers_as width count)
      → ElementsPut t values out out' base depth at c row count r
  unfolding numbers_as
  numbers_done values out out' base at c count r p =
      rw (encode_number t (R.levels t depth) row (sym e ∙ q), wide, ← f) (p base)

-- ---- structs and arrays without parts

module _ {t : TypeTable} {sizes alignments : List ℕ} {depth row : ℕ} (ready : Ready t sizes alignments depth row) {k : ℕ} {found : Bool}
    (e : k ≡ kind_at t row) (p : found ≡ has_parts t.rows row) (n : found ≡ false) where
  -- an empty struct
  pub value_empty : {values out out' : List ℕ} {base at : ℕ} {c : Cursor} → k ≡ 7 → Ask values (size_of t row) at base c → out' ≡ sets out at (zeros 1)
      → ValuePut t values out out' base depth at c row (Ok c)
  value_empty {base = base} q ask s =
      let z = struct_empty t.rows row (row_few ready) (sym p ∙ n) (sym e ∙ q) in
      rw (encode_empty t (R.levels t depth) row (sym e ∙ q) z, size_empty t row (sym e ∙ q) z) (fill_put 1 (ask_stands ask) s base)

  -- an array of numbers
  module _ {a b width : ℕ} (some : (eqb k 4 || eqb k 7) ≡ true) (other : k ≡ 7 → ⊥)
      (f : a ≡ a_at t row) (w : width ≡ a_at t a) (g : b ≡ b_at t row) where
    q : k ≡ 4
    q = array_left k some other

    below : a < row
    below = rw f (array_below t row ready.sound ready.in_use (sym e ∙ q))

    element : Ready t sizes alignments depth a
    element = let h = below in ready_at ready depth a (omega arith) (omega (arith, ready.in_use))

    numbered : kind_at t a ≡ 2
    numbered = rw f (array_numbers t.rows row (row_few ready) (sym p ∙ n) (sym e ∙ q))

    pub array_ask : {values : List ℕ} {at base : ℕ} {c : Cursor} → Ask values (size_of t row) at base c
        → (width_allowed width ≡ true) × Stands values c × (at + b * width ≤ 65536)
    array_ask {values} {at} {base} {c} ask =
        let elements : Ask values (b * size_of t a) at base c = rw (f, g) (rw (size_array t row (sym e ∙ q) (rw f at below)) at ask) in
        numbers_ask element refl numbered w b elements

    pub array_done : (values out out' : List ℕ) (base at : ℕ) (c : Cursor) (r : Wrote) → PutsInLine values out out' (b * width) at c r (numbers_as width b)
        → ValuePut t values out out' base depth at c row r
    array_done values out out' base at c r did =
        value_array t values out out' base depth at c row r e q f g below (numbers_done element refl numbered w values out out' base at c b r did)
