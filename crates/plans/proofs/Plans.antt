-- The plan of a row in use of a sound type table: its parts stand for the row's fields, one for one.
-- Assumes nothing.
use Rattle.std.specs.Prelude.{if◌then◌else◌, Option, Some, None}
use Rattle.std.specs.Option.{option_map}
use Rattle.std.proofs.lemmas.List.Elements.{All-nil, All-cons}
use Rattle.std.proofs.lemmas.Option.{option_and_then_some}
use mathlib.Core.Bool.{Bool, true, false, ◌&&◌}
use mathlib.Core.List.{List, [], ◌∷◌}
use mathlib.Core.Path.{◌≡◌, refl, ap, ◌∙◌}
use Prim.Native.Nat.{ℕ, zero, suc, ◌+◌, ◌-◌, ◌≤◌, ◌<◌}
use native.Mathlib.Omega.{arith}
use borrow.Author.Tests.{lt-ltb, ltb-true, leb-true, eq-eqb, ne_eqb, eqb-true}
use lib.Dec.{leb, ltb, eqb}
use lib.ListN.{length}
use Rattle.rules.specs.Refusals.{accepted}
use Rattle.rules.specs.TypeTable.{TypeTable, kind_in, b_in, row_count, kind_at, a_at, b_at, member_rows}
use Rattle.rules.specs.Sizes.{Field, field, layout_of, size_of, fields_of, fields_size}
use Rattle.rules.specs.Sound.{soundness, width_allowed}
use Rattle.layout.specs.Answers.{kept_alignments}
use Rattle.layout.specs.Ready.{Ready}
use Rattle.layout.proofs.ByKind.{size_bool, size_number, number_width as allowed_of, width_positive}
use Rattle.layout.proofs.Readiness.{row_few}
use Rattle.nesting.specs.Nesting.{has_parts, next_part, next_place}
use Rattle.nesting.proofs.Left.{fields_left, no_members_left}
use Rattle.nesting.proofs.Parts.{next_of}
use Rattle.nesting.proofs.Starts.{struct_fields_lem, struct_size_lem, members_below}
use Rattle.plans.specs.declared.Width.{Width}
use Rattle.plans.specs.declared.Width.TheVariants.{Boolean, Bytes}
use Rattle.plans.specs.declared.Part.{Part}
use Rattle.plans.specs.Plans.{width_bytes, no_part, parts_size, runnable, PartRuns, Runnable, number_width, flat_width, after, flat_from, plan_of}
use Rattle.plans.proofs.Widths.{bytes_laid}

-- The width that stands for a row.
pub data Flat (t : TypeTable) (row : ℕ) : (width : Width) → Type 0 where
  a_bool : kind_at t row ≡ 1 → Flat t row Boolean
  a_number : kind_at t row ≡ 2 → width_allowed (a_at t row) ≡ true → Flat t row (Bytes (a_at t row))

-- The parts that stand for fields.
pub data AllFlat (t : TypeTable) : (fields : List Field) (parts : List Part) → Type 0 where
  none : AllFlat t [] []
  more : {row fill : ℕ} {width : Width} {fields : List Field} {parts : List Part} → Flat t row width → AllFlat t fields parts
      → AllFlat t (field row fill ∷ fields) (record { width = width; fill = fill } ∷ parts)

-- The parts that stand for a row.
pub data FlatRow (t : TypeTable) (row : ℕ) : (parts : List Part) → Type 0 where
  bool_row : kind_at t row ≡ 1 → FlatRow t row (record { width = Boolean; fill = 0 } ∷ [])
  struct_row : {parts : List Part} → kind_at t row ≡ 7 → 0 < b_at t row → AllFlat t (fields_of (layout_of t) (member_rows t (a_at t row) (b_at t row))) parts → FlatRow t row parts

-- ---- what they take, and that they can be run

pub flat_size : {t : TypeTable} {row : ℕ} {width : Width} → Flat t row width → size_of t row ≡ width_bytes width
flat_size {t} {row} (a_bool e) = size_bool t row e
flat_size {t} {row} (a_number e allowed) = size_number t row e

pub flat_runs : {t : TypeTable} {row : ℕ} {width : Width} → Flat t row width → runnable width ≡ true
flat_runs (a_bool e) = refl
flat_runs (a_number e allowed) = allowed

all_size : {t : TypeTable} {fields : List Field} {parts : List Part} → AllFlat t fields parts → fields_size (layout_of t) fields ≡ parts_size parts
unfolding fields_size
all_size none = refl
all_size (more {width = width} f fs) = rw (flat_size f, all_size fs, bytes_laid width (flat_runs f))

all_run : {t : TypeTable} {fields : List Field} {parts : List Part} → AllFlat t fields parts → Runnable parts
all_run none = All-nil PartRuns
all_run (more f fs) = All-cons PartRuns _ _ (flat_runs f) (all_run fs)

pub flat_runnable : {t : TypeTable} {row : ℕ} {parts : List Part} → FlatRow t row parts → Runnable parts
flat_runnable (bool_row e) = All-cons PartRuns _ [] refl (All-nil PartRuns)
flat_runnable (struct_row kind some fs) = all_run fs

-- ---- the plan that is made

-- A number of no bytes, which is taken as a bool, or of more than eight, is not sound.
number_wide : (n : ℕ) {width : Width} → width_allowed n ≡ true → number_width n ≡ Some width → Bytes n ≡ width
number_wide n {width} allowed same = go (leb n 8) (rw (ne_eqb n 0 (λ z. omega (arith, width_positive n allowed))) at same)
  where
    go : (few : Bool) → (if few then Some (Bytes n) else None) ≡ Some width → Bytes n ≡ width
    go true same = cc
    go false same = cc

flat_of : (t : TypeTable) (sound : soundness t ≡ accepted tt) (row : ℕ) → row < row_count t → {width : Width} → flat_width t.rows row ≡ Some width → Flat t row width
flat_of t sound row below {width} = go (eqb (kind_at t row) 1) (eqb (kind_at t row) 2) refl refl
  where
    go : (bool number : Bool) → eqb (kind_at t row) 1 ≡ bool → eqb (kind_at t row) 2 ≡ number
        → (if bool then Some Boolean else if number then number_width (a_at t row) else None) ≡ Some width → Flat t row width
    go true number e f same = let w : Boolean ≡ width = cc in rw (← w) (a_bool (eqb-true _ 1 e))
    go false true e f same =
        let kind : kind_at t row ≡ 2 = eqb-true _ 2 f in
        let allowed = allowed_of t row sound below kind in
        rw (← (number_wide (a_at t row) allowed same)) (a_number kind allowed)
    go false false e f same = cc

-- A part, and those after it.
first_part : {P : Type 0} (near : Bool) (part : Part) (left : Option (List Part)) {parts : List Part} → (if near then option_map (λ rest. part ∷ rest) left else None) ≡ Some parts
    → ((rest : List Part) → left ≡ Some rest → part ∷ rest ≡ parts → P) → P
first_part true part None same k = cc
first_part true part (Some rest) same k = k rest refl (cc)
first_part false part left same k = cc

module _ (rows members alignments : List ℕ) (row : ℕ) where
  all_left : (left done place : ℕ) {parts : List Part} → flat_from rows members alignments row done place left ≡ Some parts → length parts ≡ left
  unfolding flat_from
  all_left zero done place {parts} e = let nothing : [] ≡ parts = cc in rw (← nothing) refl
  all_left (suc left) done place e =
      let l = after rows members alignments row done in
      option_and_then_some {A = Width} _ (flat_width rows (next_part rows members l)) _ e (λ width w h.
      let stop = place + width_bytes width in
      let next = next_place rows members l alignments stop in
      first_part (leb (next - stop) 8) (record { width = width; fill = next - stop }) (flat_from rows members alignments row (done + 1) next left) h
      (λ rest later same. rw (← same) (ap suc (all_left left (done + 1) next later))))

  -- A plan has no more parts than it has room for.
  pub plan_few : {parts : List Part} → plan_of rows members alignments row ≡ Some parts → length parts ≤ 16
  plan_few {parts} = go (leb 256 row) (eqb (kind_in rows row) 1) (eqb (kind_in rows row) 7) (ltb 0 count) (leb count 16) refl
    where
      count : ℕ
      count = b_in rows row

      go : (past bool struct some few : Bool) → leb count 16 ≡ few
          → (if past then None
          else if bool then Some (no_part ∷ [])
          else if struct && (some && few) then flat_from rows members alignments row 0 0 count
          else None)
          ≡ Some parts
          → length parts ≤ 16
      go true bool struct some few f e = cc
      go false true struct some few f e = let alone : no_part ∷ [] ≡ parts = cc in rw (← alone) (omega arith)
      go false false true true true f e = omega (arith, all_left count 0 0 e, leb-true count 16 f)
      go false false true true false f e = cc
      go false false true false few f e = cc
      go false false false some few f e = cc

module _ (t : TypeTable) (alignments : List ℕ) (row : ℕ) (sound : soundness t ≡ accepted tt) (kept : alignments ≡ kept_alignments t) (in_use : row < row_count t) (few : row < 256)
    (kind : kind_at t row ≡ 7) (some : 0 < b_at t row) where
  parted : has_parts t.rows row ≡ true
  parted = rw (lt-ltb row 256 few, eq-eqb _ 7 kind, lt-ltb 0 _ some)

  all_from : (left done place : ℕ) {parts : List Part} → done + left ≡ b_at t row → flat_from t.rows t.members alignments row done place left ≡ Some parts
      → AllFlat t (fields_left t (after t.rows t.members alignments row done) place) parts
  unfolding flat_from
  all_from zero done place {parts} n e =
      let nothing : [] ≡ parts = cc in
      rw (no_members_left t (after t.rows t.members alignments row done) place kind (omega arith), ← nothing) none
  all_from (suc left) done place n e =
      let l = after t.rows t.members alignments row done in
      let part = next_part t.rows t.members l in
      let x = next_of t alignments sound kept l in_use (omega arith) place (omega arith) parted in
      option_and_then_some _ _ _ e (λ width w h. first_part _ _ _ h (λ rest later same.
      let flat = flat_of t sound part (omega (arith, x.below, in_use)) w in
      let stop = place + width_bytes width in
      let next = next_place t.rows t.members l alignments stop in
      let fields : fields_left t l place ≡ field part (next - stop) ∷ fields_left t (after t.rows t.members alignments row (done + 1)) next = rw (flat_size flat) at x.fields in
      rw (fields, ← same) (more flat (all_from left (done + 1) next (omega arith) later))))

module _ {t : TypeTable} {sizes alignments : List ℕ} {depth row : ℕ} (ready : Ready t sizes alignments depth row) where
  struct_flat : {parts : List Part} → kind_at t row ≡ 7 → 0 < b_at t row → flat_from t.rows t.members alignments row 0 0 (b_at t row) ≡ Some parts → FlatRow t row parts
  struct_flat kind some e =
      struct_row kind some
      (rw (struct_fields_lem t row kind (members_below t row ready.sound ready.in_use kind) 0) at
      (all_from t alignments row ready.sound ready.alignments_kept ready.in_use (row_few ready) kind some (b_at t row) 0 0 (omega arith) e))

  pub plan_flat : {parts : List Part} → plan_of t.rows t.members alignments row ≡ Some parts → FlatRow t row parts
  plan_flat {parts} = go (leb 256 row) (eqb (kind_at t row) 1) (eqb (kind_at t row) 7) (ltb 0 (b_at t row)) (leb (b_at t row) 16) refl refl refl
    where
      go : (past bool struct some few : Bool) → eqb (kind_at t row) 1 ≡ bool → eqb (kind_at t row) 7 ≡ struct → ltb 0 (b_at t row) ≡ some
          → (if past then None
          else if bool then Some (record { width = Boolean; fill = 0 } ∷ [])
          else if struct && (some && few) then flat_from t.rows t.members alignments row 0 0 (b_at t row)
          else None)
          ≡ Some parts
          → FlatRow t row parts
      go true bool struct some few b s m e = cc
      go false true struct some few b s m e = let alone : record { width = Boolean; fill = 0 } ∷ [] ≡ parts = cc in rw (← alone) (bool_row (eqb-true _ 1 b))
      go false false true true true b s m e = struct_flat (eqb-true _ 7 s) (ltb-true 0 _ m) e
      go false false true true false b s m e = cc
      go false false true false few b s m e = cc
      go false false false some few b s m e = cc

  pub flat_row_size : {parts : List Part} → FlatRow t row parts → size_of t row ≡ parts_size parts
  unfolding fields_size
  flat_row_size (bool_row e) = size_bool t row e
  flat_row_size (struct_row kind some fs) =
      struct_size_lem t row kind (members_below t row ready.sound ready.in_use kind) some ∙ all_size fs
