-- What the functions of pass.rt promise.
-- Assumes nothing.
use Rattle.std.specs.Prelude.{List, ◌≡◌, ℕ, ◌≤◌, leb, eqb, length, Result}
use Rattle.std.proofs.lemmas.List.Edits.{sets}
use Rattle.rules.specs.declared.Place.TheVariants.{Byte, Amount}
use Rattle.rules.specs.Refusals.{fault, too_many_handles, bytes_left, handles_left, Answer, accepted, require, and_then}
use Rattle.rules.specs.TypeTable.{TypeTable}
use Rattle.rules.specs.Sound.{root_allowed, require_row}
use Rattle.rules.specs.Trace.{object_list}
use Rattle.rules.specs.Decode.{Message, trace_of}
use Rattle.rules.specs.Answers as A
use Rattle.rules.specs.Answers.{Lists, walk, finished, require_length, judged, answer_of}
use Rattle.layout.specs.Ready.{Ready}
use Rattle.reader.specs.declared.Lengths.{Lengths}
use Rattle.walk_leaves.specs.declared.cursor.Cursor.{Cursor}
use Rattle.walk_leaves.specs.Doing.{Walked}
use Rattle.walk_leaves.specs.Doing.{message, values_of, Did}
use Rattle.reader.specs.Answers.{lengths_of}
use Rattle.rules.specs.declared.Fault.{Fault}

-- The lists of a message that is accepted.
abbrev pub lists_of : Answer A.Reading → Answer Lists
lists_of answer = and_then answer (λ reading. accepted (record { values = reading.values; objects = object_list reading.trace }))

-- 2, 3 and 4, after the verdict on the type table: under every one that has these rows.
abbrev pub BeforeWalk : (sound : Answer (Unit {0})) (rows : List ℕ) (root length handles : ℕ) → Result (Unit {0}) Fault → Type 0
BeforeWalk sound rows root length handles r =
    (t : TypeTable) → t.rows ≡ rows → answer_of r
    ≡ and_then sound (λ s. require_row (root_allowed t root) root
    (require_length length (require (leb handles 64) (fault too_many_handles (Amount 0)) (accepted tt))))

-- 20, 21: what is answered where a walk ends.
abbrev pub after_walk : (end : Cursor) (length handles : ℕ) → Answer Lengths
after_walk end length handles =
    require (eqb end.next length) (fault bytes_left (Byte end.next))
    (require (eqb end.handles handles) (fault handles_left (Amount end.handles)) (accepted (record { values = end.values; objects = end.objects })))

-- Where a walk starts.
abbrev pub start : Cursor
start = record { next = 0; handles = 0; values = 0; objects = 0 }

module _ (t : TypeTable) (bytes : List ℕ) (root handles : ℕ) where
  -- What a walk from the root on asks for: every test before it has passed.
  pub record Walkable (sizes alignments : List ℕ) : Type 0 where
    pub ready : Ready t sizes alignments 32 root
    pub short : length bytes ≤ 65536
    pub few : handles ≤ 64

  module _ (values values' objects objects' : List ℕ) where
    abbrev pub PrimaryDid : Walked → Type 0
    PrimaryDid r = Did (length bytes) handles 4 values values' objects objects' start r (walk (message t bytes handles) root)

    -- One walk with the tests after it. What there is no room for is left out of the lists.
    pub record Passed (r : Result Lengths Fault) : Type 0 where
      pub answers : answer_of r ≡ lengths_of (lists_of (finished (message t bytes handles) (walk (message t bytes handles) root)))
      pub valued : values' ≡ sets values 0 (values_of (walk (message t bytes handles) root))
      pub listed : objects' ≡ sets objects 0 (object_list (trace_of (walk (message t bytes handles) root)))

-- Every test of the checker.
abbrev pub judged_lengths : Message → (root : ℕ) → Answer Lengths
judged_lengths m root = lengths_of (lists_of (judged m root))
