-- What an ordinal stands for, searched by halves among members whose ordinals rise.
-- Assumes nothing.
use Rattle.std.specs.Prelude.{◌||◌, List, ◌≡◌, ℕ, zero, suc, ◌+◌, ◌/◌, ◌<◌, ltb, eqb, if◌then◌else◌, Option, Some, None}
use Rattle.rules.specs.TypeTable.{TypeTable, ordinal_in, row_in, row_count, Content, known, unknown, content_of}

abbrev pub ordinal_is : Option ℕ → Content
ordinal_is (Some row) = known row
ordinal_is None = unknown

-- What an ordinal stands for by the members alone: under every type table that has them.
abbrev pub ContentIs : (members : List ℕ) (first count ordinal : ℕ) → Option ℕ → Type 0
ContentIs members first count ordinal what = (t : TypeTable) → t.members ≡ members → ordinal_is what ≡ content_of t first count ordinal

-- Between `low` and `high`, in at most so many steps.
unfoldable pub halved_in : (members : List ℕ) (ordinal steps low high : ℕ) → Content
halved_in members ordinal zero low high = unknown
halved_in members ordinal (suc steps) low high =
    if ltb low high then (
    if eqb (ordinal_in members ((low + high) / 2)) ordinal then known (row_in members ((low + high) / 2))
    else if ltb (ordinal_in members ((low + high) / 2)) ordinal then halved_in members ordinal steps ((low + high) / 2 + 1) high
    else halved_in members ordinal steps low ((low + high) / 2)
    ) else unknown

-- Among so many members from `first` on. A type table has at most 1,024: past that nothing is known. Where the ordinals
-- rise this is `content_of` of the rules (proofs/Ordinals.antt).
abbrev pub halved : (members : List ℕ) (ordinal first count : ℕ) → Content
halved members ordinal first count =
    if ltb 1024 first || ltb 1024 count then unknown else halved_in members ordinal (suc count) first (first + count)

-- The ordinals of so many members rise strictly, as in a sound table or union.
abbrev pub Rising : (members : List ℕ) (first count : ℕ) → Type 0
Rising members first count = (i j : ℕ) → i < j → j < count → ordinal_in members (first + i) < ordinal_in members (first + j)

-- A known member's row is in use.
abbrev pub OrdinalFits : TypeTable → Option ℕ → Type 0
OrdinalFits t (Some row) = row < row_count t
OrdinalFits t None = Unit {0}
