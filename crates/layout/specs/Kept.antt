-- On the way up the rows of a type table: what is known of the rows below, and the judgement of one row.
-- Assumes nothing.
use Rattle.std.specs.Prelude.{Bool, true, false, List, [], ◌∷◌, ◌≡◌, ℕ, ◌+◌, ◌/◌, ◌≤◌, ◌<◌, get_or, length, replicate, Result, Ok, Err}
use Rattle.rules.specs.declared.Fault.{Fault}
use Rattle.rules.specs.declared.Layout.{Layout}
use Rattle.rules.specs.declared.Place.TheVariants.{Row}
use Rattle.rules.specs.Refusals.{table_not_sound, fault, accepted}
use Rattle.rules.specs.TypeTable.{TypeTable, row_count, ordinal_in, row_in, type_of}
use Rattle.rules.specs.Sizes.{layout_of}
use Rattle.rules.specs.Sound.{row_fits, row_sound, soundness}
use Rattle.rules.specs.Answers.{answer_of}

-- A row has its line of the table of kinds.
abbrev pub Fits : TypeTable → (row : ℕ) → Type 0
Fits t row = row_fits t row (type_of t row) ≡ true

-- Every row below a bound is sound.
abbrev pub SoundBelow : TypeTable → (bound : ℕ) → Type 0
SoundBelow t bound = (row : ℕ) → row < bound → row_sound t row ≡ true

-- A list holds one part of the layouts of the rows below a bound.
abbrev pub PartBelow : (part : Layout → ℕ) (t : TypeTable) (bound : ℕ) (list : List ℕ) → Type 0
PartBelow part t bound list = (row : ℕ) → row < bound → get_or list row 0 ≡ part (layout_of t row)

-- Nothing is kept yet.
abbrev pub Zeroed : List ℕ → Type 0
Zeroed list = list ≡ replicate 256 0

-- The rows below a bound are sound, and two lists hold their sizes and alignments.
pub record KeptBelow (t : TypeTable) (bound : ℕ) (sizes alignments : List ℕ) : Type 0 where
  pub sound : SoundBelow t bound
  pub size : PartBelow (λ l. l.size) t bound sizes
  pub alignment : PartBelow (λ l. l.alignment) t bound alignments

-- A row can be laid out: it fits, the rows below it are sound, and of the rows below `kept` two lists hold the layouts.
pub record Layable (t : TypeTable) (kept row : ℕ) (sizes alignments : List ℕ) : Type 0 where
  pub below : KeptBelow t kept sizes alignments
  pub sound : SoundBelow t row
  pub fits : Fits t row
  pub few : length t.members ≤ 2048

-- Two arrays for the numbers of 256 rows keep those of the rows below `row`, which are sound.
pub record Climbing (t : TypeTable) (row : ℕ) (sizes alignments : List ℕ) : Type 0 where
  pub within : row ≤ row_count t
  pub kept : KeptBelow t row sizes alignments
  pub sizes_whole : length sizes ≡ 256
  pub alignments_whole : length alignments ≡ 256

-- Of 256 numbers those from a bound on are as they were.
pub record SameFrom (bound : ℕ) (before after : List ℕ) : Type 0 where
  pub whole : length after ≡ 256
  pub same : (row : ℕ) → bound ≤ row → get_or after row 0 ≡ get_or before row 0

-- At the top: the verdict, and of a sound table every row is kept.
pub record Climbed (t : TypeTable) (r : Result (Unit {0}) Fault) (sizes-before alignments-before sizes alignments : List ℕ) : Type 0 where
  pub verdict : answer_of r ≡ soundness t
  pub kept : soundness t ≡ accepted tt → KeptBelow t (row_count t) sizes alignments
  pub size_rest : soundness t ≡ accepted tt → SameFrom (row_count t) sizes-before sizes
  pub alignment_rest : soundness t ≡ accepted tt → SameFrom (row_count t) alignments-before alignments

-- 1, at a row.
abbrev pub refused_at : (row : ℕ) → Fault
refused_at row = fault table_not_sound (Row row)

-- A row on its own: its layout, if it is sound.
abbrev pub judged_if : (sound : Bool) (row : ℕ) → Layout → Result Layout Fault
judged_if true row l = Ok l
judged_if false row l = Err (refused_at row)

abbrev pub judged : TypeTable → (row : ℕ) → Result Layout Fault
judged t row = judged_if (row_sound t row) row (layout_of t row)

-- The `count` members from `first` on, each an ordinal and a row.
pub record Members (members : List ℕ) (first count : ℕ) (some : List (List ℕ)) : Type 0 where
  pub exist : first + count ≤ length members / 2
  pub whole : length some ≡ count
  pub each : (i : ℕ) → i < count → get_or some i [] ≡ ordinal_in members (first + i) ∷ row_in members (first + i) ∷ []
