-- Structs and arrays within one another: what comes next in one of them, and where.
-- Assumes nothing.
use Rattle.std.specs.Prelude.{Bool, not, ◌&&◌, ◌||◌, List, ℕ, ◌+◌, ◌-◌, ltb, leb, eqb, get_or, if◌then◌else◌}
use Rattle.rules.specs.Bytes.{round_up}
use Rattle.rules.specs.TypeTable.{kind_in, a_in, b_in, row_in}
use Rattle.nesting.specs.declared.Level.{Level}
use Rattle.nesting.specs.declared.Step.{Step}
use Rattle.nesting.specs.declared.Step.TheVariants.{Fill, Into, Call, Out, Done}

-- Where the member after `member` starts, or where the struct ends after its last one.
abbrev pub next_offset : (members alignments : List ℕ) (row member end offset : ℕ) → ℕ
next_offset members alignments row member end offset =
    round_up offset (get_or alignments (if eqb (member + 1) end then row else row_in members (member + 1)) 0)

module _ (rows : List ℕ) where
  -- A struct that has members, or an array of anything but numbers: its parts come one by one. A row past the last that
  -- a type table can have has none.
  abbrev pub has_parts : (row : ℕ) → Bool
  has_parts row =
      ltb row 256
      && ((eqb (kind_in rows row) 7 && ltb 0 (b_in rows row))
      || (eqb (kind_in rows row) 4 && not (eqb (kind_in rows (a_in rows row)) 2)))

  module _ (members : List ℕ) (level : Level) where
    -- The row of the member or element that comes next.
    abbrev pub next_part : ℕ
    next_part =
        if eqb (kind_in rows level.row) 7 then row_in members (a_in rows level.row + level.done)
        else a_in rows level.row

    -- Where the next part starts, or the whole ends, after a part that stops at a place: elements follow one another,
    -- members with fill between them.
    abbrev pub next_place : (alignments : List ℕ) (stop : ℕ) → ℕ
    next_place alignments stop =
        if eqb (kind_in rows level.row) 4 then stop
        else level.at + next_offset members alignments level.row (a_in rows level.row + level.done)
        (a_in rows level.row + b_in rows level.row) (stop - level.at)

    -- A level that a message of at most 65,536 bytes under a sound type table can have.
    abbrev pub possible : (place : ℕ) → Bool
    possible place = ((ltb level.row 256 && ltb level.done 65536) && leb level.at place) && leb place 65536

    abbrev pub next_step : (alignments : List ℕ) (due : Bool) (place around : ℕ) → Step
    next_step alignments due place around =
        if not (possible place) then Done
        else if due then Fill (next_place alignments place)
        else if eqb level.done (b_in rows level.row) then (if eqb around 0 then Done else Out)
        else if ltb around 8 && has_parts next_part then Into next_part
        else Call next_part
