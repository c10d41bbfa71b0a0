-- A struct laid out member by member, from the first to the last, and the alignments that come up.
-- Assumes nothing.
use Rattle.std.specs.Prelude.{List, [], ◌∷◌, ℕ, ◌+◌, max}
use Rattle.rules.specs.declared.Layout.{Layout}
use Rattle.rules.specs.Bytes.{round_up}
use Rattle.rules.specs.Sizes.{layout}

-- The alignments that types have.
pub data Alignment : ℕ → Type 0 where
  one : Alignment 1
  two : Alignment 2
  four : Alignment 4
  eight : Alignment 8

-- A struct up to some member, with its end for its size, and the next member placed after it.
abbrev pub placed : (before member : Layout) → Layout
placed before member =
    layout (round_up before.size member.alignment + member.size) (max before.alignment member.alignment)

-- Its members' rows one after the other.
unfoldable pub placed_all : (inner : ℕ → Layout) → (before : Layout) → List ℕ → Layout
placed_all inner before [] = before
placed_all inner before (row ∷ rows) = placed_all inner (placed before (inner row)) rows

-- The whole struct, when every member is placed.
abbrev pub closed : (before : Layout) → Layout
closed before = layout (round_up before.size before.alignment) before.alignment
