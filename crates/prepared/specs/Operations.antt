-- The operations on a prepared state: W-207.
-- Assumes nothing.
use Rattle.std.specs.Prelude.{Bool, ◌&&◌, List, [], ℕ, ◌*◌, leb, take}
use Rattle.rules.specs.declared.Place.TheVariants.{Row}
use Rattle.rules.specs.Refusals.{table_not_sound, fault, Answer, accepted, refused, require, and_then}
use Rattle.rules.specs.TypeTable.{TypeTable}
use Rattle.prepared.specs.declared.Counts.{Counts}
use Rattle.prepared.specs.declared.State.{State}
use Rattle.prepared.specs.States.{start, counts_in, prepared_of, require_agreement}

-- "the lists cut to" counts
abbrev pub cut_to : Counts → TypeTable → TypeTable
cut_to n t =
    record { rows = take (n.rows * 4) t.rows; members = take (n.members * 2) t.members; entries = take n.entries t.entries; edition = t.edition }

-- "append a batch of rows, members and entries (at the end of the lists handed in)": 1 of the whole lists, then 34 for a
-- "state [that] doesn't agree with the lists cut to its counts".
abbrev pub appended : State → TypeTable → Answer State
appended s t = and_then (prepared_of t) (λ new. require_agreement s (cut_to s.counts t) (accepted new))

-- "a count to go back to that is above the state's or the lists' is also 1, place 256"
abbrev pub counts_within : Counts → (most : Counts) → Bool
counts_within n most = leb n.rows most.rows && leb n.members most.members && leb n.entries most.entries

-- "go back to earlier counts of the three": 1 of the lists cut to them, then 34.
abbrev pub went_back : State → TypeTable → Counts → Answer State
went_back s t n =
    require (counts_within n s.counts && counts_within n (counts_in t)) (fault table_not_sound (Row 256))
    (and_then (prepared_of (cut_to n t)) (λ new. require_agreement s (cut_to s.counts t) (accepted new)))

-- The state after an operation: "any refusal leaves the state unchanged".
abbrev pub state_after : Answer State → (before : State) → State
state_after (accepted new) before = new
state_after (refused f) before = before

-- What preparing the lists cut to a state's counts leaves.
abbrev pub cut_state : State → TypeTable → State
cut_state s t = state_after (prepared_of (cut_to s.counts t)) start

-- Besides number and place it answers no numbers: the state is handed back.
abbrev pub no_numbers : State → List ℕ
no_numbers s = []
