-- Document 01's numbers of each answer are those of the rules' answer that it means.
-- Assumes nothing.
use Rattle.std.specs.Prelude.{Err, Ok, Result}
use mathlib.Core.Path.{◌≡◌, refl}
use lib.ListN.{length}
use Rattle.rules.specs.declared.Fault.{Fault}
use Rattle.rules.specs.Refusals.{Answer}
use Rattle.rules.specs.Answers as Rules
use Rattle.rules.specs.Answers.{numbers_of, sized, answer_of, result_numbers}
use Rattle.rules.proofs.Numbers.{numbers_told}
use Rattle.writer.specs.declared.Sizes.{Sizes}
use Rattle.writer.specs.Answers.{told, sizes_of}

abbrev sizes_in : Rules.Written → Sizes
sizes_in w = record { bytes = length w.bytes; handles = w.handles }

pub written_numbers : (r : Result Sizes Fault) (answer : Answer Rules.Written) → answer_of r ≡ sizes_of answer → result_numbers 2 told r ≡ numbers_of 2 sized answer
written_numbers (Ok sizes) answer e = numbers_told 2 told sizes_in answer refl e
written_numbers (Err f) answer e = numbers_told 2 told sizes_in answer refl e
