-- What the functions of planned.rt promise.
-- Assumes nothing.
use Rattle.std.specs.Prelude.{◌≡◌, List, ℕ, ◌*◌, eqb, length, Option, if◌then◌else◌}
use Rattle.rules.specs.TypeTable.{TypeTable}
use Rattle.rules.specs.Decode as D
use Rattle.rules.specs.Decode.{Message, Decoder}
use Rattle.rules.specs.Envelope.{decode_word}
use Rattle.rules.specs.Walk as W
use Rattle.plans.specs.declared.Part.{Part}
use Rattle.plans.specs.Plans.{width_layout, part_fields, ByPlan}
use Rattle.walk_leaves.specs.declared.cursor.Cursor.{Cursor}
use Rattle.walk_leaves.specs.Doing.{Walked}
use Rattle.walk_leaves.specs.Doing.{message, Did, Ask}
use Rattle.walk_leaves.specs.Parts.{bool_at}

-- A bool, or a number of a width.
abbrev pub width_at : Message → (width : ℕ) → Decoder
width_at m width = if eqb width 0 then bool_at m else decode_word m width

-- The parts of a plan, with the fill after each.
abbrev pub parts_at : List Part → Message → Decoder
parts_at parts m = W.fields m width_layout (width_at m) (part_fields parts)

-- Done under any type table, with any handle count, wherever it is asked for; the objects are left alone.
abbrev pub DidAsked : (bytes values values' : List ℕ) (need at : ℕ) (c : Cursor) (r : Walked) → (Message → Decoder) → Type 0
DidAsked bytes values values' need at c r part =
    (t : TypeTable) (objects : List ℕ) (handles : ℕ) → Ask (length bytes) handles need at c
    → Did (length bytes) handles need values values' objects objects c r (part (message t bytes handles) at c.next c.handles)

-- Many values of a row, done by its plan, of so many bytes each.
abbrev pub DidByPlan : (plan : Option (List Part)) (bytes values values' : List ℕ) (size count at : ℕ) (c : Cursor) → Option Walked → Type 0
DidByPlan plan bytes values values' size count at c =
    ByPlan plan (values' ≡ values) (λ parts r. DidAsked bytes values values' (count * size) at c r (λ m. D.elements size (λ i. parts_at parts m) 0 count))
