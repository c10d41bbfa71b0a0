-- What the answers of this crate's public functions mean in the rules.
-- Assumes nothing.
use Rattle.std.specs.Prelude.{List, [], ◌∷◌, ℕ, length}
use Rattle.rules.specs.Refusals.{Answer, accepted, and_then}
use Rattle.rules.specs.Answers.{Lists}
use Rattle.reader.specs.declared.Lengths.{Lengths}

-- The numbers that are told of one list, and of both.
abbrev pub one : ℕ → List ℕ
one count = count ∷ []

abbrev pub both : Lengths → List ℕ
both lengths = lengths.values ∷ lengths.objects ∷ []

-- What is answered of the lists that are given: how many numbers each has.
abbrev pub length_of : Answer (List ℕ) → Answer ℕ
length_of answer = and_then answer (λ list. accepted (length list))

abbrev pub lengths_of : Answer Lists → Answer Lengths
lengths_of answer = and_then answer (λ lists. accepted (record { values = length lists.values; objects = length lists.objects }))

-- What is given of each where both are asked for.
abbrev pub values_in : Answer Lists → Answer (List ℕ)
values_in answer = and_then answer (λ lists. accepted lists.values)

abbrev pub objects_in : Answer Lists → Answer (List ℕ)
objects_in answer = and_then answer (λ lists. accepted lists.objects)
