-- A prepared state beside the lists of a type table, and when the two agree: W-207.
-- Assumes nothing.
use Rattle.std.specs.Prelude.{Bool, false, ◌&&◌, ◌≡◌, ℕ, eqb, nat_eq, length, replicate, if◌then◌else◌}
use Rattle.std.specs.Cmp.Lexicographic.{pointwise}
use Rattle.rules.specs.declared.Place.TheVariants.{Amount}
use Rattle.rules.specs.Refusals.{state_disagrees, fault, Answer, accepted, refused, require, and_then}
use Rattle.rules.specs.TypeTable.{TypeTable, row_count, member_count}
use Rattle.rules.specs.Sound.{soundness}
use Rattle.rules.specs.Decode.{Message}
use Rattle.rules.specs.Answers.{check}
use Rattle.layout.specs.Answers.{kept_sizes, kept_alignments}
use Rattle.prepared.specs.declared.Counts.{Counts}
use Rattle.prepared.specs.declared.State.{State}

-- "two stores of 256 numbers, all zero at the start"
abbrev pub start : State
start = record { counts = record { rows = 0; members = 0; entries = 0 }; sizes = replicate 256 0; alignments = replicate 256 0 }

-- How many rows, members and entries lists hold.
abbrev pub counts_in : TypeTable → Counts
counts_in t = record { rows = row_count t; members = member_count t; entries = length t.entries }

-- The stores "hold size and alignment for each row in use and zero for the others".
abbrev pub state_of : TypeTable → State
state_of t = record { counts = counts_in t; sizes = kept_sizes t; alignments = kept_alignments t }

-- "prepare a whole table": 1, or its state.
abbrev pub prepared_of : TypeTable → Answer State
prepared_of t = and_then (soundness t) (λ sound. accepted (state_of t))

-- "A state agrees with lists if preparing them gives it; the start state agrees with empty ones."
abbrev pub empty_lists : TypeTable → Bool
empty_lists t = eqb (length t.rows) 0 && eqb (length t.members) 0 && eqb (length t.entries) 0

abbrev pub agreeing_state : TypeTable → Answer State
agreeing_state t = if empty_lists t then accepted start else prepared_of t

abbrev pub Agrees : State → TypeTable → Type 0
Agrees s t = agreeing_state t ≡ accepted s

-- The same as a test: the states are compared number by number.
abbrev pub same_counts : Counts → Counts → Bool
same_counts n m = nat_eq n.rows m.rows && (nat_eq n.members m.members && nat_eq n.entries m.entries)

abbrev pub same_state : State → State → Bool
same_state s u = same_counts s.counts u.counts && (pointwise nat_eq s.sizes u.sizes && pointwise nat_eq s.alignments u.alignments)

abbrev pub is_state : State → Answer State → Bool
is_state s (accepted u) = same_state s u
is_state s (refused f) = false

unfoldable pub agrees : State → TypeTable → Bool
agrees s t = is_state s (agreeing_state t)

-- "34, place 0, after 1"
abbrev pub require_agreement : {A : Type 0} → State → TypeTable → Answer A → Answer A
require_agreement s t answer = require (agrees s t) (fault state_disagrees (Amount 0)) answer

-- "A check whose state doesn't agree with its lists": 1, then 34,
abbrev pub agreement : State → TypeTable → Answer (Unit {0})
agreement s t = and_then (soundness t) (λ sound. require_agreement s t (accepted tt))

-- "and before 2": the check's other refusals come after.
abbrev pub check_prepared : State → Message → (root : ℕ) → Answer (Unit {0})
check_prepared s m root = and_then (agreement s m.table) (λ agreed. check m root)
