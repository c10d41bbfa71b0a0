-- Flat values: a bool, or a struct of bools and numbers alone. A plan is a list of their parts.
-- Assumes nothing.
use Rattle.std.specs.Prelude.{Bool, true, ◌&&◌, ◌≡◌, All, List, [], ◌∷◌, ◌++◌, map, length, take, drop, replicate, slice_index_or, ℕ, zero, suc, ◌+◌, ◌-◌, ◌*◌, ◌≤◌, leb, ltb, eqb, if◌then◌else◌, Option, Some, None, MatchOption, IfSome}
use Rattle.std.specs.Option.{option_map, option_and_then}
use Rattle.rules.specs.declared.Layout.{Layout}
use Rattle.rules.specs.Sizes.{Field, field, layout, fields_size}
use Rattle.rules.specs.Sound.{width_allowed}
use Rattle.rules.specs.TypeTable.{kind_in, a_in, b_in}
use Rattle.layout.specs.declared.laid.Laid.{Laid}
use Rattle.nesting.specs.declared.Level.{Level}
use Rattle.nesting.specs.Nesting.{next_part, next_place}
use Rattle.plans.specs.declared.Width.{Width}
use Rattle.plans.specs.declared.Width.TheVariants.{Boolean, Bytes}
use Rattle.plans.specs.declared.Part.{Part}

-- The bytes that a value of a width takes.
abbrev pub width_bytes : Width → ℕ
width_bytes Boolean = 1
width_bytes (Bytes bytes) = bytes

-- A bool, or a number of a width that a sound type table has.
abbrev pub runnable : Width → Bool
runnable Boolean = true
runnable (Bytes bytes) = width_allowed bytes

abbrev pub PartRuns : Part → Type 0
PartRuns part = runnable part.width ≡ true

abbrev pub Runnable : List Part → Type 0
Runnable parts = All PartRuns parts

-- What stands where a plan has no part.
abbrev pub no_part : Part
no_part = record { width = Boolean; fill = 0 }

-- The 16 parts of an array whose first ones are these.
abbrev pub padded : List Part → List Part
padded parts = parts ++ replicate (16 - length parts) no_part

-- ---- parts as the rules' fields, whose rows are numbers: a number's row is its bytes, a bool's is 0

abbrev pub width_row : Width → ℕ
width_row Boolean = 0
width_row (Bytes bytes) = bytes

abbrev pub width_layout : (row : ℕ) → Layout
width_layout row = layout (if eqb row 0 then 1 else row) 1

abbrev pub part_field : Part → Field
part_field part = field (width_row part.width) part.fill

abbrev pub part_fields : List Part → List Field
part_fields parts = map part_field parts

abbrev pub parts_size : List Part → ℕ
parts_size parts = fields_size width_layout (part_fields parts)

-- ---- the plan of a row's value

-- The width of a number of so many bytes; a number of none, which no sound type table has, is taken as a bool.
abbrev pub number_width : (bytes : ℕ) → Option Width
number_width bytes =
    if eqb bytes 0 then Some Boolean
    else if leb bytes 8 then Some (Bytes bytes)
    else None

-- The width of a row's value, if it is a bool or a number.
abbrev pub flat_width : (rows : List ℕ) (row : ℕ) → Option Width
flat_width rows row =
    if eqb (kind_in rows row) 1 then Some Boolean
    else if eqb (kind_in rows row) 2 then number_width (a_in rows row)
    else None

module _ (rows members alignments : List ℕ) (row : ℕ) where
  -- A struct of which so many members are done.
  abbrev pub after : (done : ℕ) → Level
  after done = record { row = row; done = done; at = 0 }

  abbrev pub next_width : (done : ℕ) → Option Width
  next_width done = flat_width rows (next_part rows members (after done))

  -- The members that are left, the next of them at a place, if each is a bool or a number and no fill is longer than an
  -- alignment.
  unfoldable pub flat_from : (done place left : ℕ) → Option (List Part)
  flat_from done place zero = Some []
  flat_from done place (suc left) =
      option_and_then (λ width.
      let stop = place + width_bytes width in
      let next = next_place rows members (after done) alignments stop in
      if leb (next - stop) 8
      then option_map (λ parts. record { width = width; fill = next - stop } ∷ parts) (flat_from (done + 1) next left)
      else None) (next_width done)

  -- None where a row's value is not flat, or has no member, or more than a plan has room for.
  abbrev pub plan_of : Option (List Part)
  plan_of =
      if leb 256 row then None
      else if eqb (kind_in rows row) 1 then Some (record { width = Boolean; fill = 0 } ∷ [])
      else if eqb (kind_in rows row) 7 && (ltb 0 (b_in rows row) && leb (b_in rows row) 16) then flat_from 0 0 (b_in rows row)
      else None

-- A plan whose parts are put into an array that was lent, from its start on: they are counted, and past them the array is as it was.
abbrev pub PartsPut : Option (List Part) → (lent : List Part) → Option ℕ → (after : List Part) → Type 0
PartsPut plan lent count after =
    MatchOption count (plan ≡ None) (λ n. (n ≤ 16) × (plan ≡ Some (take n after)) × (drop n after ≡ drop n lent))

-- The plan and the size of a row of what is at hand.
abbrev pub plan_in : Laid → (row : ℕ) → Option (List Part)
plan_in l row = plan_of l.rows.now l.members.now l.alignments.now row

abbrev pub size_in : Laid → (row : ℕ) → ℕ
size_in l row = slice_index_or l.sizes.now row 0

-- What is asked for where many values of a row are done by its plan, if it has one.
abbrev pub PlanAsks : Laid → (row : ℕ) → (Ask : (need : ℕ) → Type 0) → (count : ℕ) → Type 0
PlanAsks l row Ask count = IfSome (plan_in l row) (λ parts. Runnable parts × (parts_size parts ≡ size_in l row) × Ask (count * size_in l row))

-- Many values of a row, done by its plan; where there is none, nothing is.
abbrev pub ByPlan : {Answer : Type 0} → Option (List Part) → (as_before : Type 0) → (done : List Part → Answer → Type 0) → Option Answer → Type 0
ByPlan plan as_before done r = MatchOption r ((plan ≡ None) × as_before) (λ w. (parts : List Part) × (plan ≡ Some parts) × done parts w)
