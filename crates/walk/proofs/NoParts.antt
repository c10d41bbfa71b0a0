-- A struct or an array without parts, as the value walk takes it, and what the scalars ask for.
-- Assumes nothing.
use mathlib.Core.Bool.{Bool, true, false}
use mathlib.Core.List.{List}
use mathlib.Core.Path.{◌≡◌, refl, sym, ◌∙◌}
use Prim.Native.Nat.{ℕ, ◌*◌, ◌≤◌, ◌<◌}
use native.Mathlib.Omega.{arith}
use lib.ListN.{length}
use Rattle.rules.specs.TypeTable.{TypeTable, kind_at, a_at, b_at, member_rows}
use Rattle.rules.specs.Sizes.{fields_from, fields_of, size_of}
use Rattle.rules.specs.Decode as D
use Rattle.rules.specs.Decode.{Message}
use Rattle.rules.specs.Walk as W
use Rattle.nesting.specs.Nesting.{has_parts}
use Rattle.rules.specs.Sound.{width_allowed}
use Rattle.layout.specs.Ready.{Ready}
use Rattle.layout.proofs.Below.{AllBelow}
use Rattle.layout.proofs.ByKind.{size_array, size_string, number_width, width_positive, array_below}
use Rattle.nesting.proofs.NoParts.{struct_empty, array_numbers, size_empty}
use Rattle.layout.proofs.Readiness.{row_few, ready_at}
use Rattle.walk_leaves.specs.declared.cursor.Cursor.{Cursor}
use Rattle.walk_leaves.specs.Doing.{Walked}
use Rattle.walk_leaves.specs.Doing.{message, Ask}
use Rattle.walk_leaves.specs.Parts.{DidNeither}
use Rattle.walk.specs.Walking.{ValueDid, ElementsDid}
use Rattle.walk_leaves.proofs.Steps.{did_more}
use Rattle.walk.proofs.ByKind.{decode_struct}
use Rattle.walk.proofs.Values.{value_array}

-- ---- an empty struct

decode_empty : (m : Message) (deep : D.Deeper) (row : ℕ) → kind_at m.table row ≡ 7 → b_at m.table row ≡ 0 → W.decode_row m deep row ≡ D.fill m 1
unfolding W.struct_fields fields_of fields_from member_rows
decode_empty m deep row e z = decode_struct m deep row e (rw z AllBelow.none) ∙ rw z

pub value_empty : {t : TypeTable} {sizes alignments : List ℕ} {depth row : ℕ} → Ready t sizes alignments depth row → (bytes : List ℕ) (handles at : ℕ) (v o : List ℕ) (c : Cursor) (r : Walked) {k : ℕ} {found : Bool} → k ≡ kind_at t row → k ≡ 7 → found ≡ has_parts t.rows row → found ≡ false
    → c.next ≤ length bytes → c.handles ≤ handles → DidNeither bytes 0 at c r (λ m. D.fill m 1) → ValueDid t bytes handles depth v v o o at c row r
value_empty {t} {depth = depth} {row} ready bytes handles at v o c r e q p n h l d =
    let m = message t bytes handles in
    let z = struct_empty t.rows row (row_few ready) (sym p ∙ n) (sym e ∙ q) in
    rw (decode_empty m (W.levels m depth) row (sym e ∙ q) z, size_empty t row (sym e ∙ q) z) (did_more 1 (omega arith) (d t v o handles h l))

-- ---- an array of numbers

module _ {t : TypeTable} {sizes alignments : List ℕ} {depth row : ℕ} (ready : Ready t sizes alignments depth row) {a b : ℕ} (q : kind_at t row ≡ 4)
    (n : has_parts t.rows row ≡ false) (f : a ≡ a_at t row) (g : b ≡ b_at t row) where
  below : a < row
  below = rw f (array_below t row ready.sound ready.in_use q)

  -- its elements are numbers
  pub array_ask : {total handles at : ℕ} {c : Cursor} → Ask total handles (size_of t row) at c
      → Ready t sizes alignments depth a × (kind_at t a ≡ 2) × Ask total handles (b * size_of t a) at c
  array_ask ask =
      let h = below in
      (ready_at ready depth a (omega arith) (omega (arith, ready.in_use)), rw f (array_numbers t.rows row (row_few ready) n q), rw (f, g) (rw (size_array t row q (rw f at below)) at ask))

  pub array_done : (bytes : List ℕ) (handles at : ℕ) (v v' o : List ℕ) (c : Cursor) (r : Walked) → ElementsDid t bytes handles depth v v' o o at c a b r
      → ValueDid t bytes handles depth v v' o o at c row r
  array_done bytes handles at v v' o c r did = value_array t bytes handles depth row at v v' o o c r refl q f g below did

-- ---- what the scalars ask for

pub number_ask : {t : TypeTable} {sizes alignments : List ℕ} {depth row : ℕ} (ready : Ready t sizes alignments depth row) {k a : ℕ} → k ≡ kind_at t row → k ≡ 2
    → a ≡ a_at t row → (width_allowed a ≡ true) × (1 ≤ a)
number_ask {t} {row = row} ready {k} {a} e q f =
    let allowed : width_allowed a ≡ true = rw f (number_width t row ready.sound ready.in_use (sym e ∙ q)) in
    (allowed, omega (arith, width_positive a allowed))

pub string_ask : (t : TypeTable) (row : ℕ) {k total handles at : ℕ} {c : Cursor} → k ≡ kind_at t row → k ≡ 6 → Ask total handles (size_of t row) at c → Ask total handles 16 at c
string_ask t row e q a = rw (size_string t row (sym e ∙ q)) at a
