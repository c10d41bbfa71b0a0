-- What the functions of pass.rt promise.
-- Assumes nothing.
use Rattle.std.specs.Prelude.{List, ◌≡◌, ℕ, eqb, length, Result}
use Rattle.std.proofs.lemmas.List.Edits.{sets}
use Rattle.rules.specs.declared.Place.TheVariants.{Index}
use Rattle.rules.specs.Refusals.{fault, not_a_value, Answer, accepted, require}
use Rattle.rules.specs.TypeTable.{TypeTable}
use Rattle.rules.specs.Answers as Rules
use Rattle.rules.specs.Answers.{encode, closed, answer_of}
use Rattle.writer.specs.declared.Sizes.{Sizes}
use Rattle.write_leaves.specs.declared.cursor.Cursor.{Cursor}
use Rattle.write_leaves.specs.Putting.{Wrote, Put}
use Rattle.writer.specs.Answers.{sizes_of}
use Rattle.rules.specs.declared.Fault.{Fault}

-- Where a message starts.
abbrev pub start : Cursor
start = record { next = 0; handles = 0; index = 0 }

-- 26 for numbers left: what is answered where the value ends.
abbrev pub after_value : (end : Cursor) (total : ℕ) → Answer Sizes
after_value end total =
    require (eqb end.index total) (fault not_a_value (Index end.index)) (accepted (record { bytes = end.next; handles = end.handles }))

module _ (t : TypeTable) (values : List ℕ) (root : ℕ) (out out' : List ℕ) where
  -- The whole message is one object, and claims no bytes in line.
  abbrev pub PrimaryPut : Wrote → Type 0
  PrimaryPut r = Put values out out' 0 0 0 start r (encode t root values)

  -- One pass with the test after it. A message stands from the start on, as far as there is room; a refusal may leave a part of one
  -- there, which is why nothing is lent to a pass that may be refused.
  pub record Passed (r : Result Sizes Fault) : Type 0 where
    pub answers : answer_of r ≡ sizes_of (closed (length values) (encode t root values))
    pub long : length out' ≡ length out
    pub stored : (w : Rules.Written) → closed (length values) (encode t root values) ≡ accepted w → out' ≡ sets out 0 w.bytes
