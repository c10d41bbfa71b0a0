-- What this crate's public functions answer beside a `Result`: a root, and the arrays lent.
-- Assumes nothing.
use Rattle.std.specs.Prelude.{Bool, List, [], ◌∷◌, ◌≡◌, ℕ, zero, suc, ltb, if◌then◌else◌}
use Rattle.rules.specs.declared.Layout.{Layout}
use Rattle.rules.specs.Refusals.{Answer, accepted, refused}
use Rattle.rules.specs.TypeTable.{TypeTable, row_count}
use Rattle.rules.specs.Sizes.{layout_of}
use Rattle.rules.specs.Sound.{soundness, root_allowed}

-- A root is allowed by the rows alone: under every type table that has them.
abbrev pub RootIs : (rows : List ℕ) (root : ℕ) → Bool → Type 0
RootIs rows root r = (t : TypeTable) → t.rows ≡ rows → r ≡ root_allowed t root

-- One part of the layouts of the `count` rows from `row` on: a number for each row in use, and 0 past them.
unfoldable pub kept_from : (part : Layout → ℕ) → TypeTable → (row count : ℕ) → List ℕ
kept_from part t row zero = []
kept_from part t row (suc count) = (if ltb row (row_count t) then part (layout_of t row) else 0) ∷ kept_from part t (suc row) count

-- The sizes and the alignments of 256 rows.
unfoldable pub kept_sizes : TypeTable → List ℕ
unfolding kept_from
kept_sizes t = kept_from (λ l. l.size) t 0 256

unfoldable pub kept_alignments : TypeTable → List ℕ
unfolding kept_from
kept_alignments t = kept_from (λ l. l.alignment) t 0 256

-- A lent array afterwards: what is given, if the type table is sound; a refusal leaves it as it was.
abbrev pub given_if : Answer (Unit {0}) → (given before : List ℕ) → List ℕ
given_if (accepted sound) given before = given
given_if (refused f) given before = before

abbrev pub given_if_sound : TypeTable → (given before : List ℕ) → List ℕ
given_if_sound t given before = given_if (soundness t) given before
