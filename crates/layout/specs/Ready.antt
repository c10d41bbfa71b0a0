-- What a walk or the writer has at hand of a type table.
-- Assumes nothing.
use Rattle.std.specs.Prelude.{List, [], ◌≡◌, ℕ, ◌≤◌, ◌<◌}
use Rattle.rules.specs.Refusals.{accepted}
use Rattle.rules.specs.TypeTable.{TypeTable, eight_byte_envelopes, type_table, row_count}
use Rattle.rules.specs.Sound.{soundness}
use Rattle.layout.specs.declared.laid.Laid.{Laid}
use Rattle.layout.specs.Answers.{kept_sizes, kept_alignments}

-- A sound type table of the edition with 8-byte envelopes, with the sizes and alignments that are kept of its rows; so much depth left; a row in
-- use.
pub record Ready (t : TypeTable) (sizes alignments : List ℕ) (depth row : ℕ) : Type 0 where
  pub sound : soundness t ≡ accepted tt
  pub edition : t.edition ≡ eight_byte_envelopes
  pub sizes_kept : sizes ≡ kept_sizes t
  pub alignments_kept : alignments ≡ kept_alignments t
  pub depth_left : depth ≤ 32
  pub in_use : row < row_count t

-- The type table of what is at hand.
abbrev pub table_in : Laid → TypeTable
table_in l = type_table l.rows.now l.members.now l.entries.now

-- Some type table: what holds under any holds under this one, which has no rows.
abbrev pub some_table : TypeTable
some_table = type_table [] [] []

-- A kind whose record leads out of line.
abbrev pub Outside : (kind : ℕ) → Type 0
Outside kind =
    (kind ≡ 1 → ⊥) × (kind ≡ 2 → ⊥) × (kind ≡ 3 → ⊥) × (kind ≡ 4 → ⊥) × (kind ≡ 6 → ⊥) × (kind ≡ 7 → ⊥) × (kind ≡ 11 → ⊥) × (kind ≡ 12 → ⊥)
