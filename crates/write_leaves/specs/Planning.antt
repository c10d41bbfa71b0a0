-- What the functions of planned.rt promise.
-- Assumes nothing.
use Rattle.std.specs.Prelude.{◌≡◌, List, ℕ, ◌*◌, eqb, Option, if◌then◌else◌}
use Rattle.rules.specs.Encode as E
use Rattle.rules.specs.Encode.{Encoder}
use Rattle.rules.specs.Envelope.{encode_word}
use Rattle.rules.specs.Writer as R
use Rattle.plans.specs.declared.Part.{Part}
use Rattle.plans.specs.Plans.{part_fields, ByPlan}
use Rattle.write_leaves.specs.declared.cursor.Cursor.{Cursor}
use Rattle.write_leaves.specs.Putting.{Wrote, Puts, Ask}
use Rattle.write_leaves.specs.InLine.{bool_as}

-- A bool, or a number of a width.
abbrev pub width_as : (width : ℕ) → Encoder
width_as width = if eqb width 0 then bool_as else encode_word width

-- The parts of a plan, with the fill after each.
abbrev pub parts_as : List Part → Encoder
parts_as parts = R.fields width_as (part_fields parts)

-- Put at any place of a message that it is asked for at.
abbrev pub PutAsked : (values out out' : List ℕ) (size at : ℕ) (c : Cursor) (r : Wrote) → Encoder → Type 0
PutAsked values out out' size at c r part = (base : ℕ) → Ask values size at base c → Puts values out out' size at base c r part

-- Many values of a row, put by its plan, of so many bytes each.
abbrev pub PutByPlan : (plan : Option (List Part)) (values out out' : List ℕ) (size count at : ℕ) (c : Cursor) → Option Wrote → Type 0
PutByPlan plan values out out' size count at c = ByPlan plan (out' ≡ out) (λ parts r. PutAsked values out out' (count * size) at c r (E.elements (λ i. parts_as parts) 0 count))
