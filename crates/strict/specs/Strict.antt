-- What strict enums and strict bits allow, by the numbers of their row, and what is asked of those numbers.
-- Assumes nothing.
use Rattle.std.specs.Prelude.{Bool, true, List, ◌≡◌, ℕ, ◌+◌, ◌≤◌, ◌<◌, eqb, ltb, length, if◌then◌else◌}
use Rattle.rules.specs.Refusals.{strict_value_unknown}
use Rattle.rules.specs.TypeTable.{kind_in, a_in, b_in, c_in, entry_in}
use Rattle.rules.specs.Sound.{width_allowed}
use Rattle.rules.specs.Records.{Judged, unless, among_entries, within_mask}

-- So many entries rise strictly, as those of a sound enum.
abbrev pub Rising : (entries : List ℕ) (first count : ℕ) → Type 0
Rising entries first count = (i j : ℕ) → i < j → j < count → entry_in entries (first + i) < entry_in entries (first + j)

-- The entries that an enum names exist and rise.
abbrev pub Searchable : (entries : List ℕ) (kind first count : ℕ) → Type 0
Searchable entries kind first count =
    kind ≡ 11 → Rising entries first count × (first + count ≤ length entries) × (length entries ≤ 1024)

-- How far the step of a search is shifted: away, where the value is below the entry.
abbrev pub shift_away : (value entry : ℕ) → ℕ
shift_away value entry = if ltb value entry then 32 else 0

-- A value is allowed: among an enum's entries, or within the mask of bits.
abbrev pub allowed : (entries : List ℕ) (kind first count value : ℕ) → Bool
allowed entries kind first count v =
    if eqb kind 11 then among_entries entries first count v else within_mask (entry_in entries first) v

-- The test of a row's values (29).
abbrev pub strict_pattern : (rows entries : List ℕ) (row : ℕ) → ℕ → Judged
strict_pattern rows entries row v =
    unless strict_value_unknown (allowed entries (kind_in rows row) (b_in rows row) (c_in rows row) v)

-- What a row of kind 11 or 12 is in a sound type table.
pub record StrictRow (rows entries : List ℕ) (row : ℕ) : Type 0 where
  pub width : width_allowed (a_in rows row) ≡ true
  pub searchable : Searchable entries (kind_in rows row) (b_in rows row) (c_in rows row)
