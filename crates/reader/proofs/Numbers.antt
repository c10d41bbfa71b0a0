-- Document 01's numbers of each answer are those of the rules' answer that it means.
-- Assumes nothing.
use Rattle.std.specs.Prelude.{Result}
use mathlib.Core.List.{List}
use mathlib.Core.Path.{◌≡◌}
use Prim.Native.Nat.{ℕ}
use lib.ListN.{length}
use Rattle.rules.specs.declared.Fault.{Fault}
use Rattle.rules.specs.Refusals.{Answer}
use Rattle.rules.specs.Answers.{Lists, numbers_of, counted, both_counted, answer_of, result_numbers}
use Rattle.rules.proofs.Numbers.{result_numbers_told}
use Rattle.reader.specs.declared.Lengths.{Lengths}
use Rattle.reader.specs.Answers.{one, both, length_of, lengths_of}

pub given_numbers : (r : Result ℕ Fault) (answer : Answer (List ℕ)) → answer_of r ≡ length_of answer → result_numbers 1 one r ≡ numbers_of 1 counted answer
given_numbers r answer e = result_numbers_told 1 one length r answer e

abbrev lengths_in : Lists → Lengths
lengths_in lists = record { values = length lists.values; objects = length lists.objects }

pub reading_numbers : (r : Result Lengths Fault) (answer : Answer Lists) → answer_of r ≡ lengths_of answer → result_numbers 2 both r ≡ numbers_of 2 both_counted answer
reading_numbers r answer e = result_numbers_told 2 both lengths_in r answer e
