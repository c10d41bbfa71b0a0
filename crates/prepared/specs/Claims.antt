-- What W-207 claims of every state that an operation gives, and of a check with one. Proofs: proofs/Claims.antt.
use Rattle.std.specs.Prelude.{true, ◌≡◌, ℕ, ◌≤◌, ◌<◌, get_or}
use Rattle.rules.specs.Refusals.{Answer, accepted}
use Rattle.rules.specs.TypeTable.{TypeTable, row_count}
use Rattle.rules.specs.Sizes.{layout_of, size_of}
use Rattle.rules.specs.Decode.{Message}
use Rattle.rules.specs.Answers.{check}
use Rattle.prepared.specs.declared.Counts.{Counts}
use Rattle.prepared.specs.declared.State.{State}
use Rattle.prepared.specs.States.{start, prepared_of, empty_lists, Agrees, check_prepared}
use Rattle.prepared.specs.Operations.{cut_to, appended, went_back}

-- "the stores agree with document 01's sizes (not W-205's) for exactly the rows in use", and hold zero past them
pub record StoresAgree (s : State) (t : TypeTable) : Type 0 where
  pub in_use : s.counts.rows ≡ row_count t
  pub size : (row : ℕ) → row < s.counts.rows → get_or s.sizes row 0 ≡ size_of t row
  pub alignment : (row : ℕ) → row < s.counts.rows → get_or s.alignments row 0 ≡ (layout_of t row).alignment
  pub no_size : (row : ℕ) → s.counts.rows ≤ row → get_or s.sizes row 0 ≡ 0
  pub no_alignment : (row : ℕ) → s.counts.rows ≤ row → get_or s.alignments row 0 ≡ 0

-- "After each one": the state that an operation gives is that of its lists.
abbrev pub GivesStateOf : TypeTable → Answer State → Type 0
GivesStateOf t answer = (s : State) → answer ≡ accepted s → Agrees s t × StoresAgree s t

pub record Claims : Type 0 where
  pub at_the_start : (t : TypeTable) → empty_lists t ≡ true → Agrees start t × StoresAgree start t
  pub after_prepare : (t : TypeTable) → GivesStateOf t (prepared_of t)
  pub after_append : (s : State) (t : TypeTable) → GivesStateOf t (appended s t)
  pub after_going_back : (s : State) (t : TypeTable) (n : Counts) → GivesStateOf (cut_to n t) (went_back s t n)
  -- "With a state that agrees, a check answers just as it does without one".
  pub check_is_the_same : (s : State) (m : Message) (root : ℕ) → Agrees s m.table → check_prepared s m root ≡ check m root
