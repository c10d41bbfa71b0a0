-- What checker, reader, object list and writer promise, each as its `ensures` says it: of the lists handed in, those lent before
-- and after, and the answer. That these are the functions' own promises: proofs/Promises.antt.
use Rattle.std.specs.Prelude.{List, ◌≡◌, ℕ, length, Result}
use Rattle.rules.specs.Refusals.{lent_after}
use Rattle.rules.specs.TypeTable.{type_table}
use Rattle.rules.specs.Answers as Rules
use Rattle.rules.specs.Answers.{output_after, numbers_of, nothing, counted, both_counted, sized, answer_of, result_numbers}
use Rattle.walk_leaves.specs.Doing as Doing
use Rattle.reader.specs.Answers.{one, both, length_of, lengths_of, values_in, objects_in}
use Rattle.writer.specs.Answers.{told, sizes_of}
use Rattle.rules.specs.declared.Fault.{Fault}
use Rattle.reader.specs.declared.Lengths.{Lengths}
use Rattle.writer.specs.declared.Sizes.{Sizes}

module _ (rows members entries : List ℕ) (root : ℕ) where
  module _ (message : List ℕ) (handles : ℕ) where
    -- reader::check
    pub record Checks (r : Result (Unit {0}) Fault) : Type 0 where
      pub answer : answer_of r ≡ Rules.check (Doing.message (type_table rows members entries) message handles) root
      pub numbers : result_numbers 0 nothing r ≡ numbers_of 0 nothing (Rules.check (Doing.message (type_table rows members entries) message handles) root)

    -- reader::read_values
    pub record ReadsValues (values values' : List ℕ) (r : Result ℕ Fault) : Type 0 where
      pub answer : answer_of r ≡ length_of (Rules.read_values (Doing.message (type_table rows members entries) message handles) root (length values))
      pub list : values' ≡ lent_after (Rules.read_values (Doing.message (type_table rows members entries) message handles) root (length values)) values
      pub numbers : result_numbers 1 one r ≡ numbers_of 1 counted (Rules.read_values (Doing.message (type_table rows members entries) message handles) root (length values))

    -- reader::read_objects
    pub record ReadsObjects (objects objects' : List ℕ) (r : Result ℕ Fault) : Type 0 where
      pub answer : answer_of r ≡ length_of (Rules.read_objects (Doing.message (type_table rows members entries) message handles) root (length objects))
      pub list : objects' ≡ lent_after (Rules.read_objects (Doing.message (type_table rows members entries) message handles) root (length objects)) objects
      pub numbers : result_numbers 1 one r ≡ numbers_of 1 counted (Rules.read_objects (Doing.message (type_table rows members entries) message handles) root (length objects))

    -- reader::read
    pub record Reads (values values' objects objects' : List ℕ) (r : Result Lengths Fault) : Type 0 where
      pub answer : answer_of r ≡ lengths_of (Rules.read (Doing.message (type_table rows members entries) message handles) root (length values) (length objects))
      pub values_list : values' ≡ lent_after (values_in (Rules.read (Doing.message (type_table rows members entries) message handles) root (length values) (length objects))) values
      pub objects_list : objects' ≡ lent_after (objects_in (Rules.read (Doing.message (type_table rows members entries) message handles) root (length values) (length objects))) objects
      pub numbers : result_numbers 2 both r ≡ numbers_of 2 both_counted (Rules.read (Doing.message (type_table rows members entries) message handles) root (length values) (length objects))

  -- writer::write
  pub record Writes (values out out' : List ℕ) (r : Result Sizes Fault) : Type 0 where
    pub answer : answer_of r ≡ sizes_of (Rules.write (type_table rows members entries) root values (length out))
    pub output : out' ≡ output_after (Rules.write (type_table rows members entries) root values (length out)) out
    pub numbers : result_numbers 2 told r ≡ numbers_of 2 sized (Rules.write (type_table rows members entries) root values (length out))
